-- A word taken: the run after it, and what is traced of it, from what `step` told. Assumes nothing.
use Rattle.std.proofs.Common.{◌≡◌, ℕ, ◌/◌, ◌%◌, ◌<◌, Bool, true, false, cond, not, ◌&&◌, ◌||◌, eqb, leb, List, [], length, sym, refl, ap, ◌∙◌, subst, ap₂, leb-false, ne_eqb, arith}
use Rattle.stream.specs.Format.{unpack_of, word_at}
use Rattle.registers.specs.declared.Registers.{Registers}
use Rattle.registers.specs.declared.word.Word.{Word}
use Rattle.registers.specs.Word.{decode, word_of}
use Rattle.machine.specs.Run.{Outcome, outcome, ran, taken}
use Rattle.machine.specs.Machine.{Memories, memories, step_of}
use Rattle.machine.proofs.Steps.{refused_leaves}
use Rattle.chip.specs.declared.run.Ran.{Ran as Running}
use Rattle.std.specs.Prelude.{Result, Ok, Err, ◌≢◌}
use Rattle.ground.specs.declared.Refusal.{Refusal}
use Rattle.ground.specs.Refusal.{number, told}
use Rattle.ground.proofs.Numbers.{number_positive, told_err}
use Rattle.chip.specs.declared.step.Answer.{Answer}
use Rattle.chip.specs.Promises.{passed_in, registers_in}
use Rattle.chip.specs.Chip.{chip}
use Rattle.listing.specs.declared.trace.Meaning.{Meaning}
use Rattle.listing.specs.declared.trace.Numbers.{Numbers}
use Rattle.report.specs.Calls.{Lays}
use Rattle.report.specs.declared.page.Page.{Page}
use Rattle.listing.specs.Trace.{trace_line, watch_line}
use Rattle.report.proofs.Laying.{lays_nothing}
use Rattle.tracing.specs.declared.next.Taken.{Taken}
use Rattle.tracing.specs.Meaning.{meaning_of}
use Rattle.tracing.specs.Trace.{standing, is_over, answer_to, moved, TakesTraced, onward, line_at, Turns}
use Rattle.tracing.specs.Watch.{hits_of, numbers_at, hit_line, watch_at}

-- where something is left, no word was refused, and the next one is there
pub left_neither : (b c : Bool) → not b || c ≡ false → (b ≡ true) × (c ≡ false)
left_neither true c e = (refl, e)
left_neither false c e = (sym e, ap (λ (t : Bool). cond t c false) e)

-- where something is left, the index is that of a word of the recording
pub left_index : (bytes : List ℕ) (refusal index : ℕ) → is_over bytes refusal index ≡ false → index < length (unpack_of bytes)
unfolding is_over
left_index bytes refusal index e = leb-false _ _ (left_neither (eqb refusal 0) (leb (length (unpack_of bytes)) index) e).1

module _ (a : Running) (w : Word) (i z : List ℕ) (answer : Result Answer Refusal) {i' z' : List ℕ}
    (stepped : outcome (told answer) (passed_in answer) (registers_in a.registers answer) (memories i' z') ≡ step_of chip a.registers w (memories i z)) where
  -- the run after an answer is the run with the word's outcome added: a refused word leaves registers and memories
  moved_on : (r : Result Answer Refusal) → r ≡ answer
      → standing (moved a r) i' z' ≡ taken (standing a i z) (outcome (told r) (passed_in r) (registers_in a.registers r) (memories i' z'))
  unfolding moved
  moved_on (Ok o) e = refl
  moved_on (Err refusal) e =
      let some : told answer ≢ 0 = told_err (sym e) in
      let left = refused_leaves chip a.registers w (memories i z) stepped some in
      let halts : eqb (number refusal) 0 ≡ false = ne_eqb (number refusal) 0 (λ h. omega (arith, number_positive refusal, h)) in
      rw halts (ap (λ (m : Memories). ran (number refusal) a.index a.sum a.registers m) left.2)

  -- the run that the code has after an answer, with the memories left, is the run that has taken the word
  pub moved_taken : {b : Running} → b ≡ moved a answer → standing b i' z' ≡ taken (standing a i z) (step_of chip a.registers w (memories i z))
  moved_taken e = ap (λ (b : Running). standing b i' z') e ∙ moved_on answer refl ∙ ap (taken (standing a i z)) stepped

-- a word of 20 bits is its command and its data
module _ (bytes : List ℕ) (a : Running) (i z : List ℕ) {w : ℕ} (answer : Result Answer Refusal) {i' z' : List ℕ}
    (word : w ≡ word_at bytes a.index)
    (stepped : outcome (told answer) (passed_in answer) (registers_in a.registers answer) (memories i' z') ≡ step_of chip a.registers (decode (w / 65536) (w % 65536)) (memories i z)) where
  here : outcome (told answer) (passed_in answer) (registers_in a.registers answer) (memories i' z') ≡ answer_to bytes (standing a i z)
  unfolding word_of
  here = stepped ∙ ap (λ (v : ℕ). step_of chip a.registers (decode (v / 65536) (v % 65536)) (memories i z)) word

  -- the next word is taken where a call tells it with its meaning and its answer, and moves its run by that answer
  pub takes : {means : Meaning} {run : Running} {n p : ℕ}
      → means ≡ meaning_of a.registers (decode (w / 65536) (w % 65536))
      → n ≡ told answer
      → p ≡ passed_in answer
      → run ≡ moved a answer
      → TakesTraced bytes (standing a i z) (record { traced = record { index = a.index; word = w; meaning = means; refusal = n; passed = p }; run = run }) i' z'
  unfolding word_of
  takes {n = n} {p = p} meant number passes moves = record {
    traced =
        ap₂ (λ (v : ℕ) (m : Meaning). record { index = a.index; word = v; meaning = m; refusal = n; passed = p }) word
        (meant ∙ ap (λ (v : ℕ). meaning_of a.registers (decode (v / 65536) (v % 65536))) word)
        ∙ ap₂ (λ (v u : ℕ). record { index = a.index; word = word_at bytes a.index; meaning = meaning_of a.registers (word_of (word_at bytes a.index)); refusal = v; passed = u }) number passes
        ∙ ap (λ (o : Outcome Registers Memories).
        record { index = a.index; word = word_at bytes a.index; meaning = meaning_of a.registers (word_of (word_at bytes a.index)); refusal = o.refusal; passed = o.passed }) here;
    run = moved_taken a (word_of (word_at bytes a.index)) i z answer here moves;
    left = ap (λ (o : Outcome Registers Memories). o.memories) here;
  }

-- ---- one word more

lays_as : {text text' : List ℕ} {old new : Page} → text ≡ text' → Lays text old new → Lays text' old new
lays_as {old = old} {new = new} e p = subst (λ (t : List ℕ). Lays t old new) e p

module _ (bytes : List ℕ) (a : Running) (i z : List ℕ) where
  module _ (e : is_over bytes (told a.outcome) a.index ≡ true) where
    -- nothing is left: the run stays, and there is no line
    pub turns_over : {line : List ℕ} {page : Page} → line ≡ [] → Turns bytes line (standing a i z) page a i z page
    unfolding onward
    turns_over {line} {page} f = record { run = rw e; text = lays_as (sym f) (lays_nothing page) }

    -- where nothing is left there is no line
    pub line_over : line_at bytes (standing a i z) ≡ []
    unfolding line_at
    line_over = rw e

    -- where nothing is left there is no line with a pixel's numbers either
    pub watch_over : (x y : ℕ) → watch_at x y bytes (standing a i z) ≡ []
    unfolding watch_at
    watch_over x y = rw e

  module _ (e : is_over bytes (told a.outcome) a.index ≡ false) {t : Taken} {i' z' : List ℕ} (k : TakesTraced bytes (standing a i z) t i' z') where
    -- a word is left: the run after it, and its line
    pub turns_next : {text line : List ℕ} {old new : Page} → text ≡ line → Lays text old new → Turns bytes line (standing a i z) old t.run i' z' new
    unfolding onward
    turns_next f p = record { run = rw e k.run; text = lays_as f p }

    -- where a word is left, the line of what was traced is the line of the next word
    pub line_next : trace_line t.traced ≡ line_at bytes (standing a i z)
    unfolding line_at
    line_next = rw (e, k.traced)

    -- with what stands at a pixel before and after it
    pub watch_next : (x y : ℕ) {count : ℕ} {before after : Numbers}
        → count ≡ hits_of x y a.registers (word_of (word_at bytes a.index)) i z
        → before ≡ numbers_at a.registers.frame x y i z
        → after ≡ numbers_at a.registers.frame x y i' z'
        → cond (eqb t.traced.refusal 0 && not (eqb count 0)) (watch_line t.traced before after) [] ≡ watch_at x y bytes (standing a i z)
    unfolding watch_at hit_line
    watch_next x y c b f =
        let last = f ∙ ap (λ (m : Memories). numbers_at a.registers.frame x y m.i m.z) k.left in
        rw (e, c, b, last, k.traced)

-- memories that a question left as they were
pub takes_from : {bytes : List ℕ} (a : Running) {i z j y : List ℕ} {t : Taken} {i' z' : List ℕ} → j ≡ i → y ≡ z
    → TakesTraced bytes (standing a j y) t i' z' → TakesTraced bytes (standing a i z) t i' z'
takes_from {bytes} a {i} {z} {j} {y} {t} {i'} {z'} e f k =
    subst (λ (l : List ℕ). TakesTraced bytes (standing a i l) t i' z') f (subst (λ (l : List ℕ). TakesTraced bytes (standing a l y) t i' z') e k)

-- the word that a question was asked of is the next one
pub hits_word : (bytes : List ℕ) (index x y : ℕ) (r : Registers) (i z : List ℕ) {w count : ℕ} {v : Word} → w ≡ word_at bytes index → v ≡ word_of w
    → count ≡ hits_of x y r v i z → count ≡ hits_of x y r (word_of (word_at bytes index)) i z
hits_word bytes index x y r i z word is e = e ∙ ap (λ (v : Word). hits_of x y r v i z) (is ∙ ap word_of word)
