-- What a word, a recording and some recordings are counted as (document 02, [11]).
use Rattle.std.specs.Prelude.{◌≡◌, ℕ, ◌+◌, ◌*◌, ◌%◌, ◌^◌, Bool, true, false, cond, List, [], ◌∷◌, map, length, Result, Ok, Err, ◌==◌, bit_and, nat_lt}
use Rattle.picture.specs.declared.Pen.{Pen}
use Rattle.picture.specs.declared.Kind.{Kind}
use Rattle.picture.specs.declared.Kind.TheVariants.{Line0, Line1, Line2}
use Rattle.picture.specs.Offer.{Offer}
use Rattle.picture.specs.Picture.{Picture, picture, drawn}
use Rattle.triangle.specs.Offers.{kind_of as triangleKind}
use Rattle.line.specs.declared.Mode.{Mode}
use Rattle.line.specs.declared.Mode.TheVariants.{Zero, One, Two}
use Rattle.line.specs.Segment.{mode_of}
use Rattle.registers.specs.declared.Registers.{Registers}
use Rattle.registers.specs.declared.word.Word.{Word}
use Rattle.registers.specs.declared.word.Word.TheVariants.{At}
use Rattle.registers.specs.declared.word.Coordinate.{Coordinate}
use Rattle.registers.specs.declared.shape.Shape.TheVariants.{Line}
use Rattle.registers.specs.declared.shape.Completed.{Completed}
use Rattle.registers.specs.declared.shape.Completed.TheVariants.{Nothing, Triangle, Segment}
use Rattle.registers.specs.Record.{with_modes, with_zcontrol, with_hcontrol, is_on, inv_bit, reset_of}
use Rattle.registers.specs.Figure.{shape_of}
use Rattle.registers.specs.Next.{completed_by, pen_of}
use Rattle.machine.specs.Machine.{Memories, rows_in, number_of, step_of}
use Rattle.machine.specs.Run.{run_of}
use Rattle.chip.specs.Chip.{is_constant, chip}
use Rattle.chip.specs.Fresh.{fresh}
use Rattle.chip.specs.Stream.{words_of, flaw_of, running}
use Rattle.tally.specs.declared.Count.{Count}
use Rattle.tally.specs.declared.Tally.{Tally}
use Rattle.tally.specs.declared.Entry.{Entry}
use Rattle.tally.specs.declared.Stop.{Stop}
use Rattle.tally.specs.declared.Stop.TheVariants.{TooLong, Refused}
use Rattle.ground.specs.Refusal.{number}
use Rattle.tally.specs.Hidden.{offered_of, hidden_of}
use Rattle.tally.specs.Tally.{count, no_tally, only_of, count_in, added, total_of, sum_of, figures_in, passed_in, EachBalanced, EachWithin}

-- ---- a figure

-- the kind of a line, by the line mode of the moment
abbrev pub line_kind : Mode → Kind
line_kind Zero = Line0
line_kind One = Line1
line_kind Two = Line2

-- a count is of the kind of the figure that was completed; no figure, no count
unfoldable pub figure_tally : Registers → Completed → Count → Tally
figure_tally r Nothing n = no_tally
figure_tally r (Triangle a b c) n = only_of (triangleKind (is_constant r)) n
figure_tally r (Segment a b) n = only_of (line_kind (mode_of r.modes.lmode)) n

-- one figure, with its pixels
abbrev pub count_of : Pen → List Offer → Picture → Count
count_of pen os p = count 1 (offered_of os) (drawn pen os p).passed (hidden_of pen os p)

-- how many figures a word has completed
abbrev pub figures_of : Completed → ℕ
figures_of Nothing = 0
figures_of (Triangle a b c) = 1
figures_of (Segment a b) = 1

-- ---- words

-- what an accepted word offers
abbrev pub pixels_of : Registers → Word → Memories → List Offer
pixels_of r w m = chip.offers (rows_in chip r m) r w

-- the picture that it finds
abbrev pub picture_of : Memories → Picture
picture_of m = picture m.i m.z 0

-- what a word is counted as: one that is refused, as nothing; any other, as the figure that it completes, with all that it offers
unfoldable pub word_tally : Registers → Word → Memories → Tally
word_tally r w m = cond (number_of chip r w m == 0) (figure_tally r (completed_by r w) (count_of (pen_of r) (pixels_of r w m) (picture_of m))) no_tally

-- some words, until one is refused, with what was counted before them
unfoldable pub tallied_from : Registers → Memories → Tally → List Word → Tally
tallied_from r m t [] = t
tallied_from r m t (w ∷ ws) =
    cond ((step_of chip r w m).refusal == 0)
    (tallied_from (step_of chip r w m).registers (step_of chip r w m).memories (added t (word_tally r w m)) ws) t

-- ---- recordings

-- a packed stream over two memories: one that is refused before its first word counts nothing
unfoldable pub tallied_of : List ℕ → Memories → Tally
tallied_of bytes m = cond (flaw_of bytes m == 0) (tallied_from reset_of m no_tally (words_of bytes)) no_tally

-- a recording as the report tells it: whether it is too long, the number that refused it or one of its words, or 0, and its tally
pub record Entered : Type 0 where
  pub long : Bool
  pub refusal : ℕ
  pub tally : Tally

-- the same, by its parts
abbrev pub entry : Bool → ℕ → Tally → Entered
entry long refusal tally = record { long = long; refusal = refusal; tally = tally }

-- what an outcome of the code tells: whether the recording is too long
abbrev pub is_long : {A : Type 0} → Result A Stop → Bool
is_long (Ok _) = false
is_long (Err TooLong) = true
is_long (Err (Refused refusal)) = false

-- and the number that refused it
abbrev pub told_of : {A : Type 0} → Result A Stop → ℕ
told_of (Ok _) = 0
told_of (Err TooLong) = 0
told_of (Err (Refused refusal)) = number refusal

-- an entry of the code
abbrev pub entered : Entry → Entered
entered e = entry (is_long e.outcome) (told_of e.outcome) e.tally

-- the entry of a stream that its checks do not refuse: what its words come to over two memories
abbrev pub entry_from : List ℕ → Memories → Entered
entry_from bytes m = entry false (run_of (step_of chip) reset_of (words_of bytes) m).refusal (tallied_from reset_of m no_tally (words_of bytes))

-- a recording's entry, on a fresh picture of the drawing program's size: it is too long, or has its refusal and its tally
unfoldable pub entry_of : List ℕ → Entered
entry_of bytes = cond (nat_lt 8192 (length bytes)) (entry true 0 no_tally) (entry false (running reset_of bytes (fresh 8192)).refusal (tallied_of bytes (fresh 8192)))

-- its tally
abbrev pub tally_of : List ℕ → Tally
tally_of bytes = (entry_of bytes).tally

-- the tally of some recordings
abbrev pub tallies_of : List (List ℕ) → Tally
tallies_of streams = total_of (map tally_of streams)

-- ---- how offers are counted

-- the registers with the depth test and both write enables off: with them a figure's pixels all pass, and nothing is stored. Of ZCONTROL the bits
-- below the depth test stay
abbrev pub muted_of : Registers → Registers
muted_of r = with_modes r (with_hcontrol (with_zcontrol r.modes (bit_and r.modes.zcontrol 63)) 0)

-- ---- what is promised

-- what a count of a word, a run and some recordings comes to
pub record Overdraw : Type 0 where
  -- of a figure: every pixel that is offered passes or is hidden
  pub figure : (pen : Pen) (os : List Offer) (i z : List ℕ) → offered_of os ≡ (drawn pen os (picture i z 0)).passed + hidden_of pen os (picture i z 0)
  -- so it is of a word, of each kind in a run, and of each kind in total
  pub word : (r : Registers) (w : Word) (m : Memories) → EachBalanced (word_tally r w m)
  pub run : (bytes : List ℕ) (m : Memories) → EachBalanced (tallied_of bytes m)
  pub total : (streams : List (List ℕ)) → EachBalanced (tallies_of streams)
  -- an accepted word is counted as one figure if it completes one, whatever it offers
  pub completes : (r : Registers) (w : Word) (m : Memories) → number_of chip r w m ≡ 0 → figures_in (word_tally r w m) ≡ figures_of (completed_by r w)
  -- an invisible segment is no figure
  pub invisible : (r : Registers) (c : Coordinate) (n : ℕ) (m : Memories) → shape_of r.figure.shape ≡ Line → is_on inv_bit r.modes.lstatus ≡ true
      → word_tally r (At c n) m ≡ no_tally
  -- what passed in all is the count that a run tells
  pub passed : (bytes : List ℕ) (m : Memories) → passed_in (tallied_of bytes m) % 2 ^ 64 ≡ (running reset_of bytes m).sum
  -- each total is the sum over the streams
  pub figures_sum : (kind : Kind) (streams : List (List ℕ)) → (count_in kind (tallies_of streams)).figures ≡ sum_of (λ t. (count_in kind t).figures) (map tally_of streams)
  pub offered_sum : (kind : Kind) (streams : List (List ℕ)) → (count_in kind (tallies_of streams)).offered ≡ sum_of (λ t. (count_in kind t).offered) (map tally_of streams)
  pub passed_sum : (kind : Kind) (streams : List (List ℕ)) → (count_in kind (tallies_of streams)).passed ≡ sum_of (λ t. (count_in kind t).passed) (map tally_of streams)
  pub hidden_sum : (kind : Kind) (streams : List (List ℕ)) → (count_in kind (tallies_of streams)).hidden ≡ sum_of (λ t. (count_in kind t).hidden) (map tally_of streams)
  -- and small: a stream has at most 3,276 words
  pub small : (streams : List (List ℕ)) → EachWithin (length streams * 3276) (tallies_of streams)
