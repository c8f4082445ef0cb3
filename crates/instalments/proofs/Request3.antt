-- Request 3, of every outcome that the promises of the calls allow: cut anywhere, a recording ends as if it were run at once. Assumes nothing.
use Rattle.std.proofs.Common.{◌≡◌, ℕ, Bool, true, false, cond, ◌≢◌, List, [], ◌∷◌, sym, refl, ap, ◌∙◌, arith, eq-eqb, ne_eqb}
use mathlib.Core.List.{flatten}
use Rattle.stream.specs.Format.{number, joined, unpack_of}
use Rattle.stream.proofs.Bits.{none}
use Rattle.registers.specs.declared.Registers.{Registers}
use Rattle.registers.specs.Record.{reset_of}
use Rattle.machine.specs.Run.{Ran, ran}
use Rattle.machine.specs.Machine.{Memories, memories}
use Rattle.machine.proofs.Runs.{zero_or_not}
use Rattle.chip.specs.Stream.{flaw_of}
use Rattle.instalments.specs.declared.Intake.{Intake}
use Rattle.instalments.specs.Instalments.{Taking, so_far, taking, intake_of, fresh, is_closed, is_sound, numbered, unsound, given, holding, waiting, bytes_in, feeding, end_number_of, end_told, ending}
use Rattle.instalments.specs.Delivered.{Fed, no_part, a_part, Delivered, Left, by_begin, by_feed, by_finish, words_run, ended_by, Cut, Request3}
use Rattle.instalments.proofs.Rows.{past}
use Rattle.instalments.proofs.Words.{words_run_lem}
use Rattle.instalments.proofs.Bytes.{closed_refused, closed_told, open_before, waiting_open, waiting_closed, bytes_append, bytes_closed, bytes_row}
use Rattle.instalments.proofs.Sound.{feeding_bytes, feeding_refused, ending_open, ending_stays, ending_refused, fresh_sound, bytes_sound, feeding_sound, ending_sound}
use Rattle.instalments.proofs.Ends.{end_number_lem, ended_once}

-- ---- records that calls leave

-- they break no bound
left_sound : {s : Intake} → Left s → is_sound s ≡ true
left_sound (by_begin e) = rw e fresh_sound
left_sound (by_feed {s = s} m m' bytes l e) = rw (ap intake_of e) (feeding_sound (taking s m) (left_sound l) bytes)
left_sound (by_finish {s = s} m l e) = rw (ap intake_of e) (ending_sound (taking s m) (left_sound l))

-- the end closes them
ending_closes : (t : Taking) → is_sound (intake_of t) ≡ true → is_closed (ending t).so.refusal (ending t).over ≡ true
ending_closes t sound = go (is_closed t.so.refusal t.over) refl
  where
    go : (c : Bool) → is_closed t.so.refusal t.over ≡ c → is_closed (ending t).so.refusal (ending t).over ≡ true
    go true e = rw (ending_stays t sound e) e
    go false e = rw (ending_open t sound e) (closed_told (end_number_of t))

-- ---- parts

-- calls of `dextolumen_feed` come to what one call with all their bytes comes to
pub fed_together : {s s' : Intake} {m m' : Memories} {parts : List (List ℕ)} → is_sound s ≡ true → Fed s m parts s' m'
    → taking s' m' ≡ bytes_in (taking s m) (flatten parts)
unfolding bytes_in flatten
fed_together sound no_part = refl
fed_together sound (a_part {s = s} {s₁ = s₁} {m = m} {m₁ = m₁} {part = part} {parts = parts} e f) =
    let here : taking s₁ m₁ ≡ bytes_in (taking s m) part = e ∙ feeding_bytes (taking s m) sound part in
    let next : is_sound s₁ ≡ true = rw (ap intake_of here) (bytes_sound part (taking s m) sound) in
    fed_together next f ∙ ap (λ (t : Taking). bytes_in t (flatten parts)) here ∙ sym (bytes_append (taking s m) part (flatten parts))

-- ---- from the beginning

-- bytes from the beginning: their words are run, and the bits behind them wait
pub bytes_fresh : (bytes : List ℕ) (m : Memories) → bytes_in (taking fresh m) bytes ≡ waiting (words_run bytes m) (past (joined 8 bytes))
unfolding waiting number unpack_of
bytes_fresh bytes m =
    bytes_row bytes (ran 0 0 0 reset_of m) [] (omega arith) none (omega arith)
    ∙ ap (λ (a : Ran Registers Memories). waiting a (past (joined 8 bytes))) (words_run_lem (unpack_of bytes) (ran 0 0 0 reset_of m))

-- with bits that wait, the run so far is the run
waiting_so : (a : Ran Registers Memories) (row : List ℕ) → (waiting a row).so ≡ a
unfolding waiting
waiting_so a row = refl

-- ---- the end

-- after all bytes
pub ended_fresh : (bytes : List ℕ) (m : Memories) → (ending (bytes_in (taking fresh m) bytes)).so ≡ ended_by (flaw_of bytes m) (words_run bytes m)
ended_fresh bytes m = zero_or_not a.refusal going stopped
  where
    a : Ran Registers Memories
    a = words_run bytes m

    row : List ℕ
    row = past (joined 8 bytes)

    t : Taking
    t = bytes_in (taking fresh m) bytes

    sound : is_sound (intake_of t) ≡ true
    sound = bytes_sound bytes (taking fresh m) fresh_sound

    -- it tells its number
    going : a.refusal ≡ 0 → (ending t).so ≡ ended_by (flaw_of bytes m) a
    going e =
        let is : t ≡ holding a row = bytes_fresh bytes m ∙ waiting_open a row e in
        let opened : is_closed t.so.refusal t.over ≡ false = rw is (open_before a.refusal e) in
        ap (λ (u : Taking). u.so) (ending_open t sound opened ∙ ap end_told is)
        ∙ ap (λ (n : ℕ). numbered n a) (end_number_lem bytes m)
        ∙ sym (rw (eq-eqb _ _ e))

    -- after a refused word it repeats that answer
    stopped : a.refusal ≢ 0 → (ending t).so ≡ ended_by (flaw_of bytes m) a
    stopped e =
        let is : t ≡ holding a [] = bytes_fresh bytes m ∙ waiting_closed a row e in
        let shut : is_closed t.so.refusal t.over ≡ true = rw is (closed_refused a.refusal 0 e) in
        ap (λ (u : Taking). u.so) (ending_stays t sound shut ∙ is) ∙ sym (rw (ne_eqb _ _ e))

-- ---- answers

-- what calls of `dextolumen_feed` leave
left : Intake → Memories → List (List ℕ) → Taking
left s m [] = taking s m
left s m (part ∷ parts) = let t = feeding (taking s m) part in left (intake_of t) t.so.memories parts

-- is an outcome of them
fed : (parts : List (List ℕ)) (s : Intake) (m : Memories) → Fed s m parts (intake_of (left s m parts)) (left s m parts).so.memories
unfolding left
fed [] s m = no_part
fed (part ∷ parts) s m = let t = feeding (taking s m) part in a_part refl (fed parts (intake_of t) t.so.memories)

-- the end leaves the memories
ending_leaves : (t : Taking) → (ending t).so.memories ≡ t.so.memories
unfolding ending given
ending_leaves t = go (is_sound (intake_of t)) (is_closed t.so.refusal t.over)
  where
    go : (b c : Bool) → (cond b (cond c t (end_told t)) (unsound t)).so.memories ≡ t.so.memories
    go true true = refl
    go true false = refl
    go false c = refl

-- so there is one of every recording
answered : (parts : List (List ℕ)) (i z : List ℕ) → Delivered parts i z
answered parts i z =
    let t = left fresh (memories i z) parts in
    record {
      first = fresh;
      last = intake_of t;
      end = intake_of (ending t);
      i_left = t.so.memories.i;
      z_left = t.so.memories.z;
      begins = refl;
      feeds = fed parts fresh (memories i z);
      ends = ap (taking (intake_of (ending t))) (sym (ending_leaves t));
    }

-- ---- the request

module _ (parts : List (List ℕ)) (first last : Intake) (m m' : Memories) (begins : first ≡ fresh) (feeds : Fed first m parts last m') where
  -- a call of `dextolumen_feed` answers as one call with all bytes so far would
  last_is : taking last m' ≡ bytes_in (taking fresh m) (flatten parts)
  last_is = fed_together (rw begins fresh_sound) feeds ∙ ap (λ (s : Intake). bytes_in (taking s m) (flatten parts)) begins

  before : so_far last m' ≡ words_run (flatten parts) m
  before = ap (λ (t : Taking). t.so) (last_is ∙ bytes_fresh (flatten parts) m) ∙ waiting_so _ _

module _ (parts : List (List ℕ)) (i z : List ℕ) (d : Delivered parts i z) where
  -- and the end as it would then
  end_is : (taking d.end (memories d.i_left d.z_left)).so ≡ ended_by (flaw_of (flatten parts) (memories i z)) (words_run (flatten parts) (memories i z))
  end_is =
      let all = last_is parts d.first d.last (memories i z) (memories d.i_left d.z_left) d.begins d.feeds in
      ap (λ (t : Taking). t.so) (d.ends ∙ ap ending all) ∙ ended_fresh (flatten parts) (memories i z)

  cut : Cut parts i z d
  cut =
      record {
        at_end = end_is;
        at_once = λ short good o. end_is ∙ ended_once (flatten parts) (memories i z) short good ∙ sym o.promise;
      }

-- all that request 3 asks holds
pub request_3 : Request3
request_3 =
    record {
      answers = answered;
      before = before;
      cut = cut;
      closes = λ s s' m l e. ap (λ (t : Taking). is_closed t.so.refusal t.over) e ∙ ending_closes (taking s m) (left_sound l);
      feed_again = λ s s' m m' bytes l shut e.
          let same = e ∙ feeding_bytes (taking s m) (left_sound l) bytes ∙ bytes_closed bytes (taking s m) shut in
          (ap intake_of same, ap (λ (t : Taking). t.so.memories) same);
      end_again = λ s s' m l shut e. ap intake_of (e ∙ ending_stays (taking s m) (left_sound l) shut);
      sound = λ s l. left_sound l;
      feed_refuses = λ s s' m m' bytes broken e. e ∙ feeding_refused (taking s m) broken bytes;
      end_refuses = λ s s' m broken e. e ∙ ending_refused (taking s m) broken;
    }
