-- A stream that was accepted whole draws the same: word by word the two machines accept, draw and go on alike. Assumes nothing.
use mathlib.Core.Path.{◌≡◌, refl, sym, ap, ap₂, subst, ◌∙◌}
use mathlib.Core.Bool.{Bool, true, false, cond, ◌&&◌}
use mathlib.Core.List.{List, [], ◌∷◌}
use Prim.Native.Nat.{ℕ, ◌+◌, ◌%◌, ◌^◌, ◌≤◌}
use lib.Dec.{ltb, eqb}
use lib.ListN.{length, get_or}
use borrow.Author.Tests.{leb-true, eqb-true, eqb-false}
use Rattle.picture.specs.declared.Vertex.{Vertex}
use Rattle.picture.specs.Offer.{Offer}
use Rattle.picture.specs.Picture.{Picture, picture, drawn}
use Rattle.picture.specs.Place.{layout_of, place_of, rows_of, mine, in_memory}
use Rattle.picture.specs.Store.{Store, filled, read_of}
use Rattle.registers.specs.declared.Window.{Window}
use Rattle.registers.specs.declared.Registers.{Registers}
use Rattle.registers.specs.declared.word.Word.{Word}
use Rattle.registers.specs.Record.{settings, reset_of, with_window}
use Rattle.registers.specs.Figure.{vertex_completes}
use Rattle.registers.specs.Next.{is_deep_picture, transferred_of, completed_by, pen_of}
use Rattle.ground.proofs.Truth.{both}
use Rattle.registers.proofs.Completing.{only_x_and_px, AllVertices, vertex_has}
use Rattle.machine.specs.Run.{Outcome, Ran, ran, advance, run_from, run_of}
use Rattle.machine.specs.Machine.{Memories, memories, rows_in, drawing, accepted, number_of, step_of}
use Rattle.machine.proofs.Runs.{advance_accepted, run_first}
use Rattle.machine.proofs.Steps.{step_accepted, step_number}
use Rattle.chip.specs.Chip.{figure_offers, word_stores, chip}
use Rattle.chip.specs.Read.{ReadOutcome, read_as, pixel_of, reading}
use Rattle.chip.specs.Stream.{words_of, flaw_of, running}
use Rattle.chip.proofs.Reading.{read_accepted}
use Rattle.former.specs.Former.{former_coordinate, was_coordinate, was_word, was_vertex, was_record, former_reset, was_after, was_rows, former, was_pixel, was_read_number, was_reading}
use Rattle.former.specs.Request.{formerly, Widened, first, Alike, Same, SameWord, SameRead, Request12}
use Rattle.former.proofs.Words.{Taken, was_taken, wider_taken, read_taken, after_alike}
use Rattle.former.proofs.Drawing.{Former, row_same, figure_same, stores_same, drawn_same, filled_same}
use Rattle.former.proofs.Kept.{Inside, inside_parts, region_each}

-- ---- the figure that a word within the former limits completes

near : (v : Vertex) → was_vertex v ≡ true → Former v
unfolding was_vertex
near v h = let q = both (was_coordinate v.x) (was_coordinate v.y) h in record { across = leb-true _ _ q.0; up = leb-true _ _ q.1 }

module _ (r : Registers) (s : Inside r) where
  vertex_near : (n : ℕ) → was_coordinate n ≡ true → AllVertices Former (vertex_completes r n)
  vertex_near n h = vertex_has Former r (near _ s.first) (near _ s.second) n (record { across = leb-true _ _ h; up = leb-true _ _ s.y })

  completed_near : (w : Word) → was_word r w ≡ true → AllVertices Former (completed_by r w)
  completed_near = only_x_and_px (λ w f. was_word r w ≡ true → AllVertices Former (f r)) (λ w h. tt) vertex_near vertex_near

-- and the region's row
region_low : (r : Registers) → was_record r ≡ true → r.region.y ≤ former_coordinate
region_low r h = leb-true _ _ (region_each r.region (inside_parts r h).region).1.1.1.1.0

-- ---- a word

completed_same : (r : Registers) (v : Window) (w : Word) → completed_by (with_window r v) w ≡ completed_by r w
completed_same r v = only_x_and_px (λ w f. f (with_window r v) ≡ f r) (λ w. refl) (λ n. refl) (λ n. refl)

module _ (r : Registers) (v : Window) (h : Widened r.window v) (w : Word) (m : Memories) (t : Taken (length m.i) (length m.z) r w) where
  abbrev now : Registers
  now = with_window r v

  abbrev rows : ℕ
  rows = rows_in chip r m

  s : Inside r
  s = inside_parts r t.bounds

  offers_same : figure_offers rows now (completed_by now w) ≡ figure_offers (was_rows rows) r (completed_by r w)
  offers_same = ap (figure_offers rows now) (completed_same r v w) ∙ figure_same r v h rows (completed_by r w) (completed_near r s w t.word)

  -- a word that the former card took draws and stores today what it did then
  pub drawing_same : drawing chip now w m ≡ drawing former r w m
  drawing_same =
      filled_same r v (word_stores rows now w) (drawn (pen_of now) (figure_offers rows now (completed_by now w)) (picture m.i m.z 0))
      ∙ ap (filled (pen_of r) (word_stores rows now w)) (drawn_same r v (figure_offers rows now (completed_by now w)) (picture m.i m.z 0))
      ∙ ap₂ (λ (ss : List Store) (os : List Offer). filled (pen_of r) ss (drawn (pen_of r) os (picture m.i m.z 0)))
      (stores_same r v h rows w (region_low r t.bounds)) offers_same

module _ (w : Word) (m : Memories) where
  window_word : (r : Registers) (v : Window) → Widened r.window v → number_of former r w m ≡ 0 → SameWord (step_of former r w m) (step_of chip (with_window r v) w m)
  window_word r v h e =
      let t = was_taken (length m.i) (length m.z) r w e in
      let p = drawing_same r v h w m t in
      subst (λ (o : Outcome Registers Memories). SameWord o (step_of chip (with_window r v) w m)) (sym (step_accepted former r w m e))
      (subst (λ (o : Outcome Registers Memories). SameWord (accepted (was_after r w) (drawing former r w m)) o)
      (sym (step_accepted chip (with_window r v) w m (wider_taken (length m.i) (length m.z) r v w h t.now)))
      (record {
        refusal = refl;
        passed = ap (λ (q : Picture). q.passed) p;
        memories = ap (λ (q : Picture). memories q.i q.z) p;
        registers = after_alike r v h w;
      }))

  word : (r n : Registers) → Alike r n → (step_of former r w m).refusal ≡ 0 → SameWord (step_of former r w m) (step_of chip n w m)
  word r n a e =
      subst (λ (k : Registers). SameWord (step_of former r w m) (step_of chip k w m)) (sym a.rest)
      (window_word r n.window a.window (sym (step_number former r w m) ∙ e))

-- ---- a read

-- an accepted read gives the pixel and moves the region on
was_read : (r : Registers) (m : Memories) → (was_reading r m).refusal ≡ 0
    → (was_read_number r m ≡ 0) × (was_reading r m ≡ read_as 0 (was_pixel r m) (transferred_of r))
unfolding was_reading
was_read r m e = go (eqb (was_read_number r m) 0) refl e
  where
    go : (t : Bool) → eqb (was_read_number r m) 0 ≡ t
        → (cond t (read_as 0 (was_pixel r m) (transferred_of r)) (read_as (was_read_number r m) 0 r)).refusal ≡ 0
        → (was_read_number r m ≡ 0) × (cond t (read_as 0 (was_pixel r m) (transferred_of r)) (read_as (was_read_number r m) 0 r) ≡ read_as 0 (was_pixel r m) (transferred_of r))
    go true k q = (eqb-true _ _ k, refl)
    go false k q = absurd (eqb-false _ _ k q)

pixel_same : (r : Registers) (v : Window) (m : Memories) → r.region.y ≤ former_coordinate → pixel_of (with_window r v) m ≡ was_pixel r m
unfolding read_of was_pixel in_memory
pixel_same r v m low =
    ap (λ (t : Bool). cond (ltb r.region.x r.frame.line && t && mine (layout_of r.frame) r.region.x) (get_or (cond (is_deep_picture r) m.z m.i) (place_of r.frame r.region.x r.region.y) 0) 0)
    (row_same (rows_of r.frame (length m.i) (length m.z)) r.region.y low)

read : (r n : Registers) (m : Memories) → Alike r n → (was_reading r m).refusal ≡ 0 → SameRead (was_reading r m) (reading n m)
read r n m a e =
    let k = was_read r m e in
    let t = read_taken (length m.i) (length m.z) r n.window a.window k.0 in
    subst (λ (o : ReadOutcome). SameRead o (reading n m)) (sym k.1)
    (subst (λ (u : Registers). SameRead (read_as 0 (was_pixel r m) (transferred_of r)) (reading u m)) (sym a.rest)
    (subst (λ (o : ReadOutcome). SameRead (read_as 0 (was_pixel r m) (transferred_of r)) o) (sym (read_accepted (with_window r n.window) m t.0))
    (record { refusal = refl; pixel = pixel_same r n.window m (region_low r t.1); registers = record { window = a.window; rest = refl } })))

-- ---- a run

turn_same : (a b : Ran Registers Memories) (w : Word) → Same a b → a.refusal ≡ 0 → (step_of former a.registers w a.memories).refusal ≡ 0
    → Same (advance (step_of former) a w) (advance (step_of chip) b w)
turn_same a b w s goes e =
    let d : SameWord (step_of former a.registers w a.memories) (step_of chip b.registers w b.memories) =
    subst (λ (m : Memories). SameWord (step_of former a.registers w a.memories) (step_of chip b.registers w m)) (sym s.memories)
    (word w a.memories a.registers b.registers s.registers e) in
    subst (λ (c : Ran Registers Memories). Same c (advance (step_of chip) b w)) (sym (advance_accepted (step_of former) a w goes e))
    (subst (λ (c : Ran Registers Memories). Same (ran 0 (a.index + 1) ((a.sum + (step_of former a.registers w a.memories).passed) % 2 ^ 64) (step_of former a.registers w a.memories).registers (step_of former a.registers w a.memories).memories) c)
    (sym (advance_accepted (step_of chip) b w (s.refusal ∙ goes) (d.refusal ∙ e)))
    (record {
      refusal = refl;
      index = ap (λ (k : ℕ). k + 1) s.index;
      sum = ap₂ (λ (k p : ℕ). (k + p) % 2 ^ 64) s.sum d.passed;
      memories = d.memories;
      registers = d.registers;
    }))

runs_same : (ws : List Word) (a b : Ran Registers Memories) → Same a b → (run_from (step_of former) a ws).refusal ≡ 0 → Same (run_from (step_of former) a ws) (run_from (step_of chip) b ws)
runs_same [] a b s e = s
runs_same (w ∷ ws) a b s e =
    let k = run_first (step_of former) w ws a e in
    runs_same ws (advance (step_of former) a w) (advance (step_of chip) b w) (turn_same a b w s k.0 k.1) e

-- ---- a stream

-- both begin with reset, or are refused alike before the first word
begin_same : (number : ℕ) (m : Memories) → Same (ran number 0 0 former_reset m) (ran number 0 0 reset_of m)
unfolding settings
begin_same number m = record { refusal = refl; index = refl; sum = refl; memories = refl; registers = record { window = first refl refl; rest = refl } }

stream : (bytes : List ℕ) (m : Memories) → (formerly bytes m).refusal ≡ 0 → Same (formerly bytes m) (running reset_of bytes m)
unfolding formerly running
stream bytes m e = go (eqb (flaw_of bytes m) 0) e
  where
    go : (t : Bool) → (cond t (run_of (step_of former) former_reset (words_of bytes) m) (ran (flaw_of bytes m) 0 0 former_reset m)).refusal ≡ 0
        → Same (cond t (run_of (step_of former) former_reset (words_of bytes) m) (ran (flaw_of bytes m) 0 0 former_reset m))
        (cond t (run_of (step_of chip) reset_of (words_of bytes) m) (ran (flaw_of bytes m) 0 0 reset_of m))
    go true k = runs_same (words_of bytes) (ran 0 0 0 former_reset m) (ran 0 0 0 reset_of m) (begin_same 0 m) k
    go false k = begin_same (flaw_of bytes m) m

-- what request [12] asks is so: of streams, of words and of reads
pub request_12 : Request12
request_12 = record { stream = stream; word = λ r n w m. word w m r n; read = read }
