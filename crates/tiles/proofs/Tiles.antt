-- Request [9]: a chip whose memories lie in tiles beside a plain one. A word refuses alike, goes on to the same registers and offers the same
-- pixels in either layout; and the same offers leave the same picture wherever its pixels lie. Assumes nothing.
use mathlib.Core.Path.{◌≡◌, refl, sym, ap, ap₂, ◌∙◌, subst}
use mathlib.Core.Logic.{◌⊎◌, inl, inr, ⊎_elim}
use mathlib.Core.Bool.{Bool, true, false, cond, not, ◌&&◌, true≢false}
use mathlib.Core.List.{List, [], ◌∷◌, foldl, Memᴰ}
use Prim.Native.Nat.{ℕ}
use native.Mathlib.Omega.{arith}
use lib.Dec.{eqb}
use lib.ListN.{length, get_or}
use borrow.Author.Tests.{eq-eqb}
use Rattle.picture.specs.declared.Pen.{Pen}
use Rattle.picture.specs.Place.{frame_of, layout_of, place_of, rows_of, mine, in_memory}
use Rattle.picture.specs.Offer.{Offer}
use Rattle.picture.specs.Picture.{Picture, picture, drawn}
use Rattle.picture.specs.Cell.{Cell}
use Rattle.picture.specs.Store.{Store, filled, read_of}
use Rattle.picture.proofs.Places.{inside_parts, inside_of, place_apart}
use Rattle.picture.proofs.Fold.{drawn_nil, drawn_i, drawn_z}
use Rattle.picture.proofs.Stores.{filled_nil, filled_i, filled_z, filled_passed}
use Rattle.registers.specs.declared.Registers.{Registers}
use Rattle.registers.specs.declared.word.Word.{Word}
use Rattle.registers.specs.declared.shape.Completed.{Completed}
use Rattle.registers.specs.declared.shape.Completed.TheVariants.{Nothing}
use Rattle.registers.specs.Record.{laid, settings, reset_as, reset_of}
use Rattle.registers.specs.Next.{is_deep_picture, record_after, completed_by, pen_of}
use Rattle.refusals.specs.Refusal.{is_init, is_ptrn, is_cold, refusal_of, read_refusal_of}
use Rattle.refusals.proofs.Refusals.{accepted_when, read_when}
use Rattle.registers.proofs.Layouts.{after_laid, completed_laid}
use Rattle.refusals.proofs.Layouts.{number_laid, number_even, read_laid, read_even}
use Rattle.machine.specs.Run.{Ran, ran, run_of}
use Rattle.machine.specs.Along.{Along}
use Rattle.machine.specs.Machine.{Memories, memories, Even, rows_in, drawing, accepted, number_of, step_of}
use Rattle.machine.specs.Touched.{cell_in}
use Rattle.machine.specs.Offers.{State, state}
use Rattle.machine.specs.Alike.{SamePixels, AlikeOutcome, AlikeRun}
use Rattle.machine.proofs.Runs.{zero_or_not}
use Rattle.machine.proofs.Steps.{step_accepted, step_refused, step_either}
use Rattle.machine.proofs.Pixels.{Sized, drawn_same, drawn_count, filled_same}
use Rattle.machine.proofs.Shares.{held_all, stores_all}
use Rattle.machine.proofs.Alike.{runs_alike}
use Rattle.chip.specs.Chip.{figure_offers, word_stores, chip}
use Rattle.chip.specs.Read.{ReadOutcome, pixel_of, read_number, reading, Call, word, strobe, called}
use Rattle.chip.specs.Stream.{words_of, flaw_in, flaw_of, running}
use Rattle.chip.specs.Demands.{Ended}
use Rattle.tiles.specs.Tiles.{answer, answers_of, tiled_rows, plain_rows, SamePicture, Beside, Starts, Keeps, Keeping, CallsAlike, StreamsAlike, Request9}
use Rattle.chip.proofs.Laws.{nothing_offered, word_unstored, init_quiet, inside}
use Rattle.chip.proofs.Layouts.{pens_laid, offers_laid, stores_laid}
use Rattle.chip.proofs.Reading.{read_accepted, read_refused}

-- ---- a word in tiles

-- tiles have every column
tiles_mine : (line x : ℕ) → mine (layout_of (frame_of line 1)) x ≡ true
unfolding mine layout_of
tiles_mine line x = refl

-- the pixels that it offers
offers_tiled : (rows rows' : ℕ) (r : Registers) (w : Word) → rows ≡ rows' → chip.offers rows (laid 1 r) w ≡ chip.offers rows' (laid 0 r) w
offers_tiled rows rows' r w e =
    ap (λ (n : ℕ). chip.offers n (laid 1 r) w) e ∙ offers_laid 1 rows' r w ∙ held_all (layout_of (frame_of r.frame.line 1)) (tiles_mine r.frame.line) (chip.offers rows' (laid 0 r) w)

-- and what it stores besides
stores_tiled : (rows rows' : ℕ) (r : Registers) (w : Word) → rows ≡ rows' → chip.stores rows (laid 1 r) w ≡ chip.stores rows' (laid 0 r) w
stores_tiled rows rows' r w e =
    ap (λ (n : ℕ). chip.stores n (laid 1 r) w) e ∙ stores_laid 1 rows' r w ∙ stores_all (layout_of (frame_of r.frame.line 1)) (tiles_mine r.frame.line) (chip.stores rows' (laid 0 r) w)

-- two reads tell the same, and what they leave belongs together
record ReadAlike (line n n' : ℕ) (o p : ReadOutcome) (a b : Memories) : Type 0 where
  pub refusal : o.refusal ≡ p.refusal
  pub pixel : o.pixel ≡ p.pixel
  pub left : Beside line n n' o.registers a p.registers b

-- calls from two states are answered alike, and what they leave belongs together
record Answered (line n n' : ℕ) (s t : State Registers Memories) (cs : List Call) : Type 0 where
  pub answers : answers_of s cs ≡ answers_of t cs
  pub left : Beside line n n' (foldl called s cs).registers (foldl called s cs).memories (foldl called t cs).registers (foldl called t cs).memories

-- no INIT was accepted yet, or one that named the line length
abbrev Warm : ℕ → Registers → Type 0
Warm line r = (is_cold r ≡ true) ⊎ (r.frame.line ≡ line)

-- before the first accepted INIT no other word is accepted
cold_first : (ni nz : ℕ) (r : Registers) (w : Word) → refusal_of ni nz r w ≡ 0 → is_cold r ≡ true → is_init w ≡ true
cold_first ni nz r w e cold = go (is_init w) (is_cold r) ((accepted_when ni nz r w).0 e).begun cold
  where
    go : (i c : Bool) → not i && c ≡ false → c ≡ true → i ≡ true
    go true c f g = refl
    go false c f g = absurd (true≢false (sym g ∙ f))

-- a read leaves them so
warm_read : (line : ℕ) (r : Registers) (m : Memories) → Warm line r → Warm line (reading r m).registers
warm_read line r m warm =
    zero_or_not (read_number r m)
    (λ e. subst (λ (o : ReadOutcome). Warm line o.registers) (sym (read_accepted r m e)) warm)
    (λ e. subst (λ (o : ReadOutcome). Warm line o.registers) (sym (read_refused r m e)) warm)

-- ---- a call over memories

rows_even : (k : ℕ) (r : Registers) (n : ℕ) (m : Memories) → Even n m → rows_in chip (laid k r) m ≡ rows_of (frame_of r.frame.line k) n n
rows_even k r n m e = ap₂ (rows_of (frame_of r.frame.line k)) e.0 e.1

-- the pixels inside are the same in either layout
inside_laid : (line rows x y : ℕ) → in_memory (frame_of line 1) rows x y ≡ in_memory (frame_of line 0) rows x y
unfolding in_memory mine layout_of
inside_laid line rows x y = refl

module _ (q : Registers) (n n' : ℕ) (a b : Memories) (ea : Even n a) (eb : Even n' b) where
  -- what a word draws and stores, of the plain chip's offers and stores, from a pen
  abbrev painted : Pen → List Offer → List Store → Memories → Picture
  painted pen os ss m = filled pen ss (drawn pen os (picture m.i m.z 0))

  painted_i : (pen : Pen) (os : List Offer) (ss : List Store) (m : Memories) → length (painted pen os ss m).i ≡ length m.i
  painted_i pen os ss m = filled_i pen ss _ ∙ drawn_i pen os _

  painted_z : (pen : Pen) (os : List Offer) (ss : List Store) (m : Memories) → length (painted pen os ss m).z ≡ length m.z
  painted_z pen os ss m = filled_z pen ss _ ∙ drawn_z pen os _

  even_painted : (pen : Pen) (os : List Offer) (ss : List Store) (k : ℕ) (m : Memories) → Even k m
      → Even k (memories (painted pen os ss m).i (painted pen os ss m).z)
  even_painted pen os ss k m e = (painted_i pen os ss m ∙ e.0, painted_z pen os ss m ∙ e.1)

  sized : (m : Memories) → Sized (length m.i) (length m.z) (picture m.i m.z 0)
  sized m = record { i = refl; z = refl }

  sized_drawn : (pen : Pen) (os : List Offer) (m : Memories) → Sized (length m.i) (length m.z) (drawn pen os (picture m.i m.z 0))
  sized_drawn pen os m = record { i = drawn_i pen os _; z = drawn_z pen os _ }

  module _ (w : Word) where
    -- the registers after an accepted word
    after_tiled : record_after (laid 1 q) w ≡ laid 1 (record_after (laid 0 q) w)
    after_tiled = after_laid 1 q w ∙ ap (laid 1) (sym (after_laid 0 q w))

    after_plain : record_after (laid 0 q) w ≡ laid 0 (record_after (laid 0 q) w)
    after_plain = after_laid 0 q w ∙ ap (laid 0) (sym (after_laid 0 q w))

    -- an accepted word that completes nothing and is no PTRN
    quiet : (k : ℕ) (m : Memories) → completed_by q w ≡ Nothing → is_ptrn w ≡ false → drawing chip (laid k q) w m ≡ picture m.i m.z 0
    quiet k m none dry =
        ap (λ (ss : List Store). filled (pen_of (laid k q)) ss (drawn (pen_of (laid k q)) (figure_offers (rows_in chip (laid k q) m) (laid k q) (completed_by (laid k q) w)) (picture m.i m.z 0)))
        (word_unstored (rows_in chip (laid k q) m) (laid k q) w dry)
        ∙ filled_nil (pen_of (laid k q)) _
        ∙ ap (λ (f : Completed). drawn (pen_of (laid k q)) (figure_offers (rows_in chip (laid k q) m) (laid k q) f) (picture m.i m.z 0)) (completed_laid k q w ∙ none)
        ∙ nothing_drawn k m
      where
        nothing_drawn : (k : ℕ) (m : Memories) → drawn (pen_of (laid k q)) (figure_offers (rows_in chip (laid k q) m) (laid k q) Nothing) (picture m.i m.z 0) ≡ picture m.i m.z 0
        nothing_drawn k m = ap (λ (os : List Offer). drawn (pen_of (laid k q)) os (picture m.i m.z 0)) (nothing_offered (rows_in chip (laid k q) m) (laid k q)) ∙ drawn_nil (pen_of (laid k q)) _

    quiet_alike : (line : ℕ) → completed_by q w ≡ Nothing → is_ptrn w ≡ false → SamePicture line (plain_rows line n') a b
        → AlikeOutcome (Beside line n n') (accepted (record_after (laid 1 q) w) (drawing chip (laid 1 q) w a)) (accepted (record_after (laid 0 q) w) (drawing chip (laid 0 q) w b))
    quiet_alike line none dry same =
        subst
        (λ (p : Picture). AlikeOutcome (Beside line n n') (accepted (record_after (laid 1 q) w) p) (accepted (record_after (laid 0 q) w) (drawing chip (laid 0 q) w b)))
        (sym (quiet 1 a none dry))
        (subst
        (λ (p : Picture). AlikeOutcome (Beside line n n') (accepted (record_after (laid 1 q) w) (picture a.i a.z 0)) (accepted (record_after (laid 0 q) w) p))
        (sym (quiet 0 b none dry))
        (record { refusal = refl; passed = refl; state = record { tiled = after_tiled; plain = after_plain; even = ea; even' = eb; picture = same } }))

  -- what an accepted call finds that draws, stores or reads
  module _ (rows : tiled_rows q.frame.line n ≡ plain_rows q.frame.line n') (same : SamePicture q.frame.line (plain_rows q.frame.line n') a b) where
    is : rows_of (frame_of q.frame.line 1) (length a.i) (length a.z) ≡ plain_rows q.frame.line n'
    is = rows_even 1 q n a ea ∙ rows

    is' : rows_of (frame_of q.frame.line 0) (length b.i) (length b.z) ≡ plain_rows q.frame.line n'
    is' = rows_even 0 q n' b eb

    abbrev Inside : ℕ → ℕ → Type 0
    Inside x y = in_memory (frame_of q.frame.line 1) (plain_rows q.frame.line n') x y ≡ true

    -- what lies inside the plain chip's memory
    held : (x y : ℕ) → in_memory (frame_of q.frame.line 0) (rows_in chip (laid 0 q) b) x y ≡ true → Inside x y
    held x y u = inside_laid q.frame.line (plain_rows q.frame.line n') x y ∙ subst (λ (k : ℕ). in_memory (frame_of q.frame.line 0) k x y ≡ true) is' u

    pixels : SamePixels (frame_of q.frame.line 1) (frame_of q.frame.line 0) (plain_rows q.frame.line n') (picture a.i a.z 0) (picture b.i b.z 0)
    pixels x y h = let k = inside_parts (frame_of q.frame.line 1) (plain_rows q.frame.line n') x y h in same x y k.0 k.1

    module _ (w : Word) where
      abbrev os : List Offer
      os = figure_offers (rows_in chip (laid 0 q) b) (laid 0 q) (completed_by (laid 0 q) w)

      abbrev ss : List Store
      ss = word_stores (rows_in chip (laid 0 q) b) (laid 0 q) w

      held_offers : (o : Offer) → Memᴰ o os → Inside o.x o.y
      held_offers o u = held o.x o.y (inside.at (rows_in chip (laid 0 q) b) (laid 0 q) w o u)

      held_stores : (s : Store) → Memᴰ s ss → Inside s.x s.y
      held_stores s u = held s.x s.y (inside.stores (rows_in chip (laid 0 q) b) (laid 0 q) w s u)

      -- the tiled chip draws the plain one's offers, and stores what it stores
      draws : drawing chip (laid 1 q) w a ≡ painted (pen_of (laid 1 q)) os ss a
      draws =
          ap₂ (λ (us : List Offer) (ts : List Store). painted (pen_of (laid 1 q)) us ts a)
          (offers_tiled (rows_in chip (laid 1 q) a) (rows_in chip (laid 0 q) b) q w (is ∙ sym is'))
          (stores_tiled (rows_in chip (laid 1 q) a) (rows_in chip (laid 0 q) b) q w (is ∙ sym is'))

      same_drawn : SamePixels (frame_of q.frame.line 1) (frame_of q.frame.line 0) (plain_rows q.frame.line n')
          (drawn (pen_of (laid 1 q)) os (picture a.i a.z 0)) (drawn (pen_of (laid 0 q)) os (picture b.i b.z 0))
      same_drawn =
          drawn_same (pen_of (laid 1 q)) (pen_of (laid 0 q)) (pens_laid 1 q) (plain_rows q.frame.line n') (length a.i) (length a.z) (length b.i) (length b.z) is is'
          (λ x y h. sym (inside_laid q.frame.line (plain_rows q.frame.line n') x y) ∙ h) os (picture a.i a.z 0) (picture b.i b.z 0) (sized a) (sized b) held_offers pixels

      same_after : SamePixels (frame_of q.frame.line 1) (frame_of q.frame.line 0) (plain_rows q.frame.line n')
          (painted (pen_of (laid 1 q)) os ss a) (painted (pen_of (laid 0 q)) os ss b)
      same_after =
          filled_same (pen_of (laid 1 q)) (pen_of (laid 0 q)) (pens_laid 1 q) (plain_rows q.frame.line n') (length a.i) (length a.z) (length b.i) (length b.z) is is'
          (λ x y h. sym (inside_laid q.frame.line (plain_rows q.frame.line n') x y) ∙ h) ss
          (drawn (pen_of (laid 1 q)) os (picture a.i a.z 0)) (drawn (pen_of (laid 0 q)) os (picture b.i b.z 0))
          (sized_drawn (pen_of (laid 1 q)) os a) (sized_drawn (pen_of (laid 0 q)) os b) held_stores same_drawn

      count_after : (painted (pen_of (laid 1 q)) os ss a).passed ≡ (painted (pen_of (laid 0 q)) os ss b).passed
      count_after =
          filled_passed (pen_of (laid 1 q)) ss _
          ∙ drawn_count (pen_of (laid 1 q)) (pen_of (laid 0 q)) (pens_laid 1 q) (plain_rows q.frame.line n') (length a.i) (length a.z) (length b.i) (length b.z) is is'
          (λ x y h. sym (inside_laid q.frame.line (plain_rows q.frame.line n') x y) ∙ h) os (picture a.i a.z 0) (picture b.i b.z 0) (sized a) (sized b) held_offers pixels refl
          ∙ sym (filled_passed (pen_of (laid 0 q)) ss _)

      drawn_alike : AlikeOutcome (Beside q.frame.line n n') (accepted (record_after (laid 1 q) w) (drawing chip (laid 1 q) w a)) (accepted (record_after (laid 0 q) w) (drawing chip (laid 0 q) w b))
      drawn_alike =
          subst
          (λ (p : Picture). AlikeOutcome (Beside q.frame.line n n') (accepted (record_after (laid 1 q) w) p) (accepted (record_after (laid 0 q) w) (drawing chip (laid 0 q) w b)))
          (sym draws)
          (record {
            refusal = refl;
            passed = count_after;
            state =
                record {
                  tiled = after_tiled w;
                  plain = after_plain w;
                  even = even_painted (pen_of (laid 1 q)) os ss n a ea;
                  even' = even_painted (pen_of (laid 0 q)) os ss n' b eb;
                  picture = λ x y h k. same_after x y (inside_of (frame_of q.frame.line 1) (plain_rows q.frame.line n') x y h k (tiles_mine q.frame.line x));
                };
          })

    -- a read finds the same pixel
    abbrev here : ℕ
    here = place_of (frame_of q.frame.line 1) q.region.x q.region.y

    abbrev here' : ℕ
    here' = place_of (frame_of q.frame.line 0) q.region.x q.region.y

    abbrev stands : Bool → Memories → ℕ → ℕ
    stands t m at = cond t (get_or (cond (is_deep_picture q) m.z m.i) at 0) 0

    read_cell : (d : Bool) → cell_in a here ≡ cell_in b here' → get_or (cond d a.z a.i) here 0 ≡ get_or (cond d b.z b.i) here' 0
    read_cell true e = ap (λ (c : Cell). c.z) e
    read_cell false e = ap (λ (c : Cell). c.i) e

    pixel_alike : pixel_of (laid 1 q) a ≡ pixel_of (laid 0 q) b
    unfolding read_of
    pixel_alike =
        ap (λ (k : ℕ). stands (in_memory (frame_of q.frame.line 1) k q.region.x q.region.y) a here) is
        ∙ go (in_memory (frame_of q.frame.line 1) (plain_rows q.frame.line n') q.region.x q.region.y) refl
        ∙ ap (λ (t : Bool). stands t b here') (inside_laid q.frame.line (plain_rows q.frame.line n') q.region.x q.region.y)
        ∙ ap (λ (k : ℕ). stands (in_memory (frame_of q.frame.line 0) k q.region.x q.region.y) b here') (sym is')
      where
        go : (t : Bool) → in_memory (frame_of q.frame.line 1) (plain_rows q.frame.line n') q.region.x q.region.y ≡ t → stands t a here ≡ stands t b here'
        go true h = read_cell (is_deep_picture q) (pixels q.region.x q.region.y h)
        go false h = refl

  -- a word
  word_number : (w : Word) → number_of chip (laid 1 q) w a ≡ number_of chip (laid 0 q) w b
  word_number w =
      ap₂ (λ (i z : ℕ). refusal_of i z (laid 1 q) w) ea.0 ea.1
      ∙ (number_laid 1 n n q w (omega arith) ∙ number_even n n' (laid 0 q) w)
      ∙ sym (ap₂ (λ (i z : ℕ). refusal_of i z (laid 0 q) w) eb.0 eb.1)

  word_alike : (w : Word) (line : ℕ) → tiled_rows line n ≡ plain_rows line n' → SamePicture line (plain_rows line n') a b → Warm line q
      → AlikeOutcome (Beside line n n') (step_of chip (laid 1 q) w a) (step_of chip (laid 0 q) w b)
  word_alike w line rows same warm =
      zero_or_not (number_of chip (laid 0 q) w b)
      (λ e.
      rw (step_accepted chip (laid 1 q) w a (word_number w ∙ e), step_accepted chip (laid 0 q) w b e)
      (⊎_elim
      (λ cold. let first = cold_first (length b.i) (length b.z) (laid 0 q) w e cold in quiet_alike w line (init_quiet q w first).0 (init_quiet q w first).1 same)
      (λ is.
      subst
      (λ (l : ℕ). tiled_rows l n ≡ plain_rows l n' → SamePicture l (plain_rows l n') a b
      → AlikeOutcome (Beside l n n') (accepted (record_after (laid 1 q) w) (drawing chip (laid 1 q) w a)) (accepted (record_after (laid 0 q) w) (drawing chip (laid 0 q) w b)))
      is (λ r s. drawn_alike r s w) rows same) warm))
      (λ e.
      rw (step_refused chip (laid 1 q) w a (λ z. e (sym (word_number w) ∙ z)), step_refused chip (laid 0 q) w b e)
      (record { refusal = word_number w; passed = refl; state = record { tiled = refl; plain = refl; even = ea; even' = eb; picture = same } }))

  -- a read
  strobe_number : read_number (laid 1 q) a ≡ read_number (laid 0 q) b
  strobe_number =
      ap₂ (λ (i z : ℕ). read_refusal_of i z (laid 1 q)) ea.0 ea.1
      ∙ (read_laid 1 n n q (omega arith) ∙ read_even n n' (laid 0 q))
      ∙ sym (ap₂ (λ (i z : ℕ). read_refusal_of i z (laid 0 q)) eb.0 eb.1)

  strobe_alike : (line : ℕ) → tiled_rows line n ≡ plain_rows line n' → SamePicture line (plain_rows line n') a b
      → Warm line q → ReadAlike line n n' (reading (laid 1 q) a) (reading (laid 0 q) b) a b
  strobe_alike line rows same warm =
      zero_or_not (read_number (laid 0 q) b)
      (λ e.
      rw (read_accepted (laid 1 q) a (strobe_number ∙ e), read_accepted (laid 0 q) b e)
      (record {
        refusal = refl;
        pixel =
            ⊎_elim (λ cold. absurd (true≢false (sym cold ∙ ((read_when (length b.i) (length b.z) (laid 0 q)).0 e).begun)))
            (λ is.
            subst (λ (l : ℕ). tiled_rows l n ≡ plain_rows l n' → SamePicture l (plain_rows l n') a b → pixel_of (laid 1 q) a ≡ pixel_of (laid 0 q) b) is (λ r s. pixel_alike r s) rows same)
            warm;
        left = record { tiled = refl; plain = refl; even = ea; even' = eb; picture = same };
      }))
      (λ e.
      rw (read_refused (laid 1 q) a (λ z. e (sym strobe_number ∙ z)), read_refused (laid 0 q) b e)
      (record { refusal = strobe_number; pixel = refl; left = record { tiled = refl; plain = refl; even = ea; even' = eb; picture = same } }))

-- ---- runs

-- two chips that belong together, whose registers are those of reset or have the line length
record Together (line n n' : ℕ) (r : Registers) (a : Memories) (r' : Registers) (b : Memories) : Type 0 where
  pub beside : Beside line n n' r a r' b
  pub warm : Warm line r'

module _ (line n n' : ℕ) (rows : tiled_rows line n ≡ plain_rows line n') where
  -- a word that keeps the line length leaves it
  warm_word : (r : Registers) (w : Word) (m : Memories) → Warm line r → Keeps line r w m → Warm line (step_of chip r w m).registers
  warm_word r w m warm keeps =
      step_either chip r w m (λ o. Warm line o.registers) (λ e. inr (keeps e)) (λ e. warm)

  beside_word : (r : Registers) (w : Word) (a : Memories) (r' : Registers) (b : Memories) → Together line n n' r a r' b → Keeps line r' w b
      → AlikeOutcome (Together line n n') (step_of chip r w a) (step_of chip r' w b)
  beside_word r w a r' b t keeps =
      let s = t.beside in
      let k = subst (λ (t : Registers). AlikeOutcome (Beside line n n') (step_of chip t w a) (step_of chip r' w b)) (sym s.tiled)
      (subst (λ (t : Registers). AlikeOutcome (Beside line n n') (step_of chip (laid 1 r') w a) (step_of chip t w b)) (sym s.plain)
      (word_alike r' n n' a b s.even s.even' w line rows s.picture t.warm)) in
      record { refusal = k.refusal; passed = k.passed; state = record { beside = k.state; warm = warm_word r' w b t.warm keeps } }

  beside_strobe : (r : Registers) (a : Memories) (r' : Registers) (b : Memories) → Together line n n' r a r' b → ReadAlike line n n' (reading r a) (reading r' b) a b
  beside_strobe r a r' b t =
      let s = t.beside in
      subst (λ (t : Registers). ReadAlike line n n' (reading t a) (reading r' b) a b) (sym s.tiled)
      (subst (λ (t : Registers). ReadAlike line n n' (reading (laid 1 r') a) (reading t b) a b) (sym s.plain)
      (strobe_alike r' n n' a b s.even s.even' line rows s.picture t.warm))

  -- words and reads, one after the other
  calls_alike : (cs : List Call) (s t : State Registers Memories) → Together line n n' s.registers s.memories t.registers t.memories → Keeping line t cs
      → Answered line n n' s t cs
  unfolding answers_of
  calls_alike [] s t together keeps = record { answers = refl; left = together.beside }
  calls_alike (word w ∷ cs) s t together keeps =
      let k = beside_word s.registers w s.memories t.registers t.memories together keeps.0 in
      let rest = calls_alike cs (called s (word w)) (called t (word w)) k.state keeps.1 in
      record { answers = ap₂ ◌∷◌ (ap₂ answer k.refusal k.passed) rest.answers; left = rest.left }
  calls_alike (strobe ∷ cs) s t together keeps =
      let k = beside_strobe s.registers s.memories t.registers t.memories together in
      let rest = calls_alike cs (called s strobe) (called t strobe) (record { beside = k.left; warm = warm_read line t.registers t.memories together.warm }) keeps in
      record { answers = ap₂ ◌∷◌ (ap₂ answer k.refusal k.pixel) rest.answers; left = rest.left }

module _ (line n n' : ℕ) (a b : Memories) (s : Starts line n n' a b) where
  start : Beside line n n' (reset_as 1) a reset_of b
  unfolding settings
  start = record { tiled = refl; plain = refl; even = s.even; even' = s.even'; picture = s.picture }

  begun : Together line n n' (reset_as 1) a reset_of b
  unfolding settings
  begun = record { beside = start; warm = inl refl }

  runs : (ws : List Word) → Along (step_of chip) (Keeps line) (ran 0 0 0 reset_of b) ws
      → AlikeRun (Together line n n') (run_of (step_of chip) (reset_as 1) ws a) (run_of (step_of chip) reset_of ws b)
  runs ws keeps =
      runs_alike (step_of chip) (step_of chip) (Together line n n') (Keeps line) (beside_word line n n' s.rows) ws (ran 0 0 0 (reset_as 1) a) (ran 0 0 0 reset_of b)
      (record { refusal = refl; index = refl; sum = refl; state = begun }) keeps

  flaw_same : (bytes : List ℕ) → flaw_of bytes a ≡ flaw_of bytes b
  unfolding flaw_of
  flaw_same bytes =
      ap₂ (flaw_in bytes) s.even.0 s.even.1 ∙ rw (eq-eqb n n refl, eq-eqb n' n' refl) refl ∙ sym (ap₂ (flaw_in bytes) s.even'.0 s.even'.1)

  streams : (bytes : List ℕ) → Along (step_of chip) (Keeps line) (ran 0 0 0 reset_of b) (words_of bytes)
      → AlikeRun (Together line n n') (running (reset_as 1) bytes a) (running reset_of bytes b)
  unfolding running
  streams bytes keeps = rw (flaw_same bytes) (go (eqb (flaw_of bytes b) 0))
    where
      go : (t : Bool)
          → AlikeRun (Together line n n') (cond t (run_of (step_of chip) (reset_as 1) (words_of bytes) a) (ran (flaw_of bytes b) 0 0 (reset_as 1) a))
          (cond t (run_of (step_of chip) reset_of (words_of bytes) b) (ran (flaw_of bytes b) 0 0 reset_of b))
      go true = runs (words_of bytes) keeps
      go false = record { refusal = refl; index = refl; sum = refl; state = begun }

  calls : (cs : List Call) → Keeping line (state reset_of b) cs → CallsAlike line n n' a b cs
  calls cs keeps =
      let k = calls_alike line n n' s.rows cs (state (reset_as 1) a) (state reset_of b) begun keeps in
      record { answers = k.answers; left = k.left }

-- whatever outcomes the promises allow
told_alike : (line n n' : ℕ) {bytes i z i' z' : List ℕ} (o : Ended (reset_as 1) bytes i z) (p : Ended reset_of bytes i' z')
    → AlikeRun (Together line n n') (running (reset_as 1) bytes (memories i z)) (running reset_of bytes (memories i' z')) → StreamsAlike line n n' o p
told_alike line n n' {bytes} {i} {z} {i'} {z'} o p k =
    let both = subst (λ (q : Ran Registers Memories). AlikeRun (Together line n n') q (running reset_of bytes (memories i' z'))) (sym o.promise) k in
    let told = subst (λ (q : Ran Registers Memories). AlikeRun (Together line n n') (ran o.refusal o.index o.sum o.registers (memories o.i_left o.z_left)) q) (sym p.promise) both in
    record { refusal = told.refusal; index = told.index; sum = told.sum; left = told.state.beside }

-- tiles and rows show the same picture, and no two pixels share a place
pub request_9 : Request9
request_9 =
    record {
      calls = λ line n n' a b s cs. calls line n n' a b s cs;
      streams = λ line n n' i z i' z' s bytes keeps o p. told_alike line n n' o p (streams line n n' (memories i z) (memories i' z') s bytes keeps);
      apart = λ frame ni nz. place_apart frame ni nz;
    }
