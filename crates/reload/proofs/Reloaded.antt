-- A region saved and reloaded. Each read and each PTRN move the region on in the same way; a number stored where it was read leaves the
-- memories as they were, and one that is stored is read back, since no later pixel of the walk is at its place. Assumes nothing.
use mathlib.Core.Path.{◌≡◌, refl, sym, ap, ap₂, ◌∙◌, subst}
use mathlib.Core.Bool.{Bool, true, false, cond, true≢false}
use mathlib.Core.List.{List, [], ◌∷◌, map, foldl, foldl-append}
use Prim.Native.Nat.{ℕ, zero, suc, ◌+◌, ◌*◌, ◌≤◌, ◌<◌}
use native.Mathlib.Omega.{arith}
use lib.ListN.{length, get_or}
use borrow.Author.Tests.{eq-eqb}
use Rattle.picture.specs.Place.{rows_of, in_memory}
use Rattle.picture.specs.Picture.{Picture, picture}
use Rattle.picture.specs.Store.{pixel_for, storable, read_of}
use Rattle.picture.proofs.Stores.{filled_i, filled_z, filled_passed, read_outside}
use Rattle.picture.proofs.Pictures.{Low, left, read_elsewhere, read_back_lem, read_stored}
use Rattle.registers.specs.declared.Region.{Region}
use Rattle.registers.specs.declared.Registers.{Registers}
use Rattle.registers.specs.declared.word.Word.{Word}
use Rattle.registers.specs.declared.word.Word.TheVariants.{Ptrn}
use Rattle.registers.specs.Record.{is_on, i_bit, z_bit, nothing_awaited, region_of, no_region, with_parked, with_region}
use Rattle.registers.specs.Region.{moved, next_pixel}
use Rattle.registers.specs.Subcommand.{subcommand_of}
use Rattle.registers.specs.Next.{pen_of, is_deep_picture, record_after, completed_by}
use Rattle.refusals.specs.Bounds.{in_bounds}
use Rattle.refusals.specs.Refusal.{is_cold, awaits, is_unfit, refusal_of}
use Rattle.refusals.proofs.Refusals.{accepted_when, given_14, read_when, read_14}
use Rattle.refusals.proofs.Kept.{after_kept, read_kept}
use Rattle.machine.specs.Run.{Outcome, outcome}
use Rattle.machine.specs.Machine.{Memories, memories, number_of, step_of}
use Rattle.machine.specs.Offers.{State, state, onward}
use Rattle.machine.proofs.Runs.{zero_or_not}
use Rattle.machine.proofs.Steps.{step_refused, step_either}
use Rattle.machine.proofs.Kept.{step_length_i, step_length_z}
use Rattle.chip.specs.Chip.{word_stores, chip}
use Rattle.chip.specs.Read.{ReadOutcome, read_as, read_number, reading}
use Rattle.chip.proofs.Words.{word_stored}
use Rattle.chip.proofs.Reading.{read_accepted, read_refused}
use Rattle.reload.specs.Reload.{Corners, opening, reads, reads_leave, taking, saving, saving_leaves, loading, Allowed, Ready, Word16, apart, size_of, stepped, read_back_of, Reload}
use Rattle.reload.proofs.Walk.{turned, remaining, Goes, ends, goes, goes_of, size_remaining, walked, stands_at}
use Rattle.reload.proofs.Opened.{opened_as, opened}

-- one read more
reads_more : (n : ℕ) (q : Registers) (m : Memories) → reads_leave (suc n) q m ≡ (reading (reads_leave n q m) m).registers
unfolding reads_leave
reads_more zero q m = refl
reads_more (suc n) q m = reads_more n (reading q m).registers m

-- memories of one length
abbrev Same : Memories → Type 0
Same m = length m.i ≡ length m.z

-- words keep them so
taken_same : (ws : List Word) (q : Registers) (m : Memories) → Same m → Same (taking q ws m).memories
taken_same [] q m h = h
taken_same (w ∷ ws) q m h = taken_same ws _ _ (step_length_i chip q w m ∙ h ∙ sym (step_length_z chip q w m))

-- registers but for the region, with nothing awaited
module _ (r : Registers) (begun : is_cold r ≡ false) (idle : awaits r ≡ false) where
  abbrev at : ℕ → Region → Registers
  at way g = with_region r (turned way g)

  -- the number at a pixel
  abbrev look : Memories → ℕ → ℕ → ℕ
  look m x y = read_of r.frame (is_deep_picture r) x y m.i m.z

  -- what a number leaves that is stored at the region's pixel
  abbrev drawn : Region → ℕ → Memories → Picture
  drawn g v m = left (pen_of r) m.i m.z (is_deep_picture r) g.x g.y v

  abbrev put : Region → ℕ → Memories → Memories
  put g v m = memories (drawn g v m).i (drawn g v m).z

  put_i : (g : Region) (v : ℕ) (m : Memories) → length (put g v m).i ≡ length m.i
  put_i g v m = filled_i (pen_of r) (storable (pen_of r) (rows_of r.frame (length m.i) (length m.z)) (pixel_for (is_deep_picture r) g.x g.y v)) (picture m.i m.z 0)

  put_z : (g : Region) (v : ℕ) (m : Memories) → length (put g v m).z ≡ length m.z
  put_z g v m = filled_z (pen_of r) (storable (pen_of r) (rows_of r.frame (length m.i) (length m.z)) (pixel_for (is_deep_picture r) g.x g.y v)) (picture m.i m.z 0)

  put_same : (g : Region) (v : ℕ) (m : Memories) → Same m → Same (put g v m)
  put_same g v m h = put_i g v m ∙ h ∙ sym (put_z g v m)

  put_rows : (g : Region) (v : ℕ) (m : Memories) → rows_of r.frame (length (put g v m).i) (length (put g v m).z) ≡ rows_of r.frame (length m.i) (length m.z)
  put_rows g v m = ap₂ (λ (a b : ℕ). rows_of r.frame a b) (put_i g v m) (put_z g v m)

  -- ---- a read and a PTRN of an open region

  module _ (g : Region) (m : Memories) (same : Same m) where
    read_on_lem : in_bounds (at 2 g) ≡ true → read_number (at 2 g) m ≡ 0
    read_on_lem s = (read_when (length m.i) (length m.z) (at 2 g)).1 (record { same = same; sound = s; begun = begun; idle = idle; outward = refl })

    read_step : in_bounds (at 2 g) ≡ true → reading (at 2 g) m ≡ read_as 0 (look m g.x g.y) (with_region r (next_pixel (turned 2 g)))
    read_step s = read_accepted (at 2 g) m (read_on_lem s)

    read_next : in_bounds (at 2 g) ≡ true → in_bounds (with_region r (next_pixel (turned 2 g))) ≡ true
    read_next s = read_kept (length m.i) (length m.z) (at 2 g) (read_on_lem s)

    ptrn_on : (v : ℕ) → in_bounds (at 1 g) ≡ true → refusal_of (length m.i) (length m.z) (at 1 g) (Ptrn v) ≡ 0
    ptrn_on v s =
        (accepted_when (length m.i) (length m.z) (at 1 g) (Ptrn v)).1
        (record {
          known = refl;
          same = same;
          sound = s;
          begun = begun;
          assigned = refl;
          modelled = refl;
          expected = idle;
          wanted = refl;
          listed = refl;
          valued = refl;
          fitting = refl;
          placed = refl;
        })

    ptrn_step : (v : ℕ) → in_bounds (at 1 g) ≡ true → step_of chip (at 1 g) (Ptrn v) m ≡ outcome 0 0 (with_region r (next_pixel (turned 1 g))) (put g v m)
    unfolding completed_by word_stores record_after
    ptrn_step v s =
        sym (word_stored (at 1 g) (Ptrn v) m.i m.z refl (ptrn_on v s) {i' = (drawn g v m).i} {z' = (drawn g v m).z} refl refl
        (ap (λ (n : ℕ). picture (drawn g v m).i (drawn g v m).z n)
        (sym (filled_passed (pen_of r) (storable (pen_of r) (rows_of r.frame (length m.i) (length m.z)) (pixel_for (is_deep_picture r) g.x g.y v)) (picture m.i m.z 0))))
        refl)

    ptrn_next : ℕ → in_bounds (at 1 g) ≡ true → in_bounds (with_region r (next_pixel (turned 1 g))) ≡ true
    unfolding record_after
    ptrn_next v s = after_kept (length m.i) (length m.z) (at 1 g) (Ptrn v) (ptrn_on v s)

  -- with no region open every PTRN is refused
  shut : (vs : List ℕ) (m : Memories) → taking (with_region r no_region) (map Ptrn vs) m ≡ state (with_region r no_region) m
  shut [] m = refl
  shut (v ∷ vs) m =
      ap (λ (o : Outcome Registers Memories). taking o.registers (map Ptrn vs) o.memories)
      (step_refused chip (with_region r no_region) (Ptrn v) m
      (λ e. true≢false ((accepted_when (length m.i) (length m.z) (with_region r no_region) (Ptrn v)).0 e).placed))
      ∙ shut vs m

  -- ---- the registers that reads and PTRNs leave differ in the region only

  record LeftAs (q : Registers) : Type 0 where
    region : Region
    is : q ≡ with_region r region
    sound : in_bounds q ≡ true

  reads_leave_lem : (n : ℕ) (k : Region) (m : Memories) → in_bounds (with_region r k) ≡ true → LeftAs (reads_leave n (with_region r k) m)
  unfolding reads_leave
  reads_leave_lem zero k m s = record { region = k; is = refl; sound = s }
  reads_leave_lem (suc n) k m s =
      zero_or_not (read_number (with_region r k) m)
      (λ e. subst (λ (a : ReadOutcome). LeftAs (reads_leave n a.registers m)) (sym (read_accepted (with_region r k) m e))
      (reads_leave_lem n (next_pixel k) m (read_kept (length m.i) (length m.z) (with_region r k) e)))
      (λ e. subst (λ (a : ReadOutcome). LeftAs (reads_leave n a.registers m)) (sym (read_refused (with_region r k) m e)) (reads_leave_lem n k m s))

  loads_leave : (vs : List ℕ) (k : Region) (m : Memories) → in_bounds (with_region r k) ≡ true → LeftAs (taking (with_region r k) (map Ptrn vs) m).registers
  unfolding record_after
  loads_leave [] k m s = record { region = k; is = refl; sound = s }
  loads_leave (v ∷ vs) k m s =
      step_either chip (with_region r k) (Ptrn v) m (λ o. LeftAs (taking o.registers (map Ptrn vs) o.memories).registers)
      (λ e. loads_leave vs (next_pixel k) _ (after_kept (length m.i) (length m.z) (with_region r k) (Ptrn v) e))
      (λ e. loads_leave vs k m s)

  -- ---- how many reads a region has

  -- after some reads of a region that has so many pixels left
  record Stands (n : ℕ) (g : Region) (m : Memories) : Type 0 where
    here : Region
    is : reads_leave n (at 2 g) m ≡ at 2 here
    sound : in_bounds (at 2 here) ≡ true
    less : remaining here + n ≡ remaining g

  stands : (n : ℕ) (g : Region) (m : Memories) → Same m → in_bounds (at 2 g) ≡ true → n ≤ remaining g → Stands n g m
  unfolding reads_leave
  stands zero g m same s l = record { here = g; is = refl; sound = s; less = omega arith }
  stands (suc n) g m same s l = go (goes_of g) (λ h b k. stands n h m same b k)
    where
      go : Goes g → ((h : Region) → in_bounds (at 2 h) ≡ true → n ≤ remaining h → Stands n h m) → Stands (suc n) g m
      go (ends e z) rest = absurd (omega (arith, l, z))
      go (goes x y e less) rest =
          let k = rest (moved g x y) (subst (λ (a : Region). in_bounds (with_region r a) ≡ true) (e 2) (read_next g m same s)) (omega (arith, l, less)) in
          record {
            here = k.here;
            is = ap (λ (a : ReadOutcome). reads_leave n a.registers m) (read_step g m same s) ∙ ap (λ (a : Region). reads_leave n (with_region r a) m) (e 2) ∙ k.is;
            sound = k.sound;
            less = omega (arith, less, k.less);
          }

  -- with no region open a read is refused with 14
  read_shut : (m : Memories) → Same m → in_bounds (with_region r no_region) ≡ true → read_number (with_region r no_region) m ≡ 14
  read_shut m same s =
      (read_14 (length m.i) (length m.z) (with_region r no_region)).1
      (refl, (fit, (begun, (refl, (refl, (idle, (refl, (refl, (refl, (refl, (refl, (refl, (refl, tt)))))))))))))
    where
      fit : is_unfit (length m.i) (length m.z) (with_region r no_region) ≡ false
      fit = rw (eq-eqb _ _ same, s)

  -- the last pixel's read leaves none open
  read_ends : (g : Region) (m : Memories) → Same m → in_bounds (at 2 g) ≡ true → remaining g ≡ 0 → read_number (reading (at 2 g) m).registers m ≡ 14
  read_ends g m same s z = ap (λ (a : ReadOutcome). read_number a.registers m) (read_step g m same s) ∙ go (goes_of g)
    where
      go : Goes g → read_number (with_region r (next_pixel (turned 2 g))) m ≡ 14
      go (ends e q) =
          ap (λ (a : Region). read_number (with_region r a) m) (e 2)
          ∙ read_shut m same (subst (λ (a : Region). in_bounds (with_region r a) ≡ true) (e 2) (read_next g m same s))
      go (goes x y e less) = absurd (omega (arith, z, less))

  -- what the read after so many reads tells
  read_at : (n k : ℕ) (g : Region) (m : Memories) → Same m → in_bounds (at 2 g) ≡ true → k < n → k ≤ remaining g
      → get_or (reads n (at 2 g) m) k 0 ≡ look m (walked k (turned 2 g)).x (walked k (turned 2 g)).y
  unfolding reads walked
  read_at zero k g m same s l t = absurd (omega (arith, l))
  read_at (suc n) zero g m same s l t = ap (λ (a : ReadOutcome). a.pixel) (read_step g m same s)
  read_at (suc n) (suc k) g m same s l t =
      ap (λ (a : ReadOutcome). get_or (reads n a.registers m) k 0) (read_step g m same s)
      ∙ go (goes_of g) (λ h b u. read_at n k h m same b (omega (arith, l)) u)
    where
      go : Goes g
          → ((h : Region) → in_bounds (at 2 h) ≡ true → k ≤ remaining h
          → get_or (reads n (at 2 h) m) k 0 ≡ look m (walked k (turned 2 h)).x (walked k (turned 2 h)).y)
          → get_or (reads n (with_region r (next_pixel (turned 2 g))) m) k 0
          ≡ look m (walked k (next_pixel (turned 2 g))).x (walked k (next_pixel (turned 2 g))).y
      go (ends e z) rest = absurd (omega (arith, t, z))
      go (goes x y e less) rest =
          ap (λ (a : Region). get_or (reads n (with_region r a) m) k 0) (e 2)
          ∙ rest (moved g x y) (subst (λ (a : Region). in_bounds (with_region r a) ≡ true) (e 2) (read_next g m same s)) (omega (arith, t, less))
          ∙ sym (ap (λ (a : Region). look m (walked k a).x (walked k a).y) (e 2))

  -- ---- how many PTRNs a region takes

  -- after some pixels of a region that has more
  record Holds (vs : List ℕ) (g : Region) (m : Memories) : Type 0 where
    here : Region
    is : (taking (at 1 g) (map Ptrn vs) m).registers ≡ at 1 here
    sound : in_bounds (at 1 here) ≡ true

  holds : (vs : List ℕ) (g : Region) (m : Memories) → Same m → in_bounds (at 1 g) ≡ true → length vs ≤ remaining g → Holds vs g m
  holds [] g m same s l = record { here = g; is = refl; sound = s }
  holds (v ∷ vs) g m same s l = go (goes_of g) (λ h b k. holds vs h (put g v m) (put_same g v m same) b k)
    where
      go : Goes g → ((h : Region) → in_bounds (at 1 h) ≡ true → length vs ≤ remaining h → Holds vs h (put g v m)) → Holds (v ∷ vs) g m
      go (ends e z) rest = absurd (omega (arith, l, z))
      go (goes x y e less) rest =
          let k = rest (moved g x y) (subst (λ (a : Region). in_bounds (with_region r a) ≡ true) (e 1) (ptrn_next g m same v s)) (omega (arith, l, less)) in
          record {
            here = k.here;
            is = ap (λ (o : Outcome Registers Memories). (taking o.registers (map Ptrn vs) o.memories).registers) (ptrn_step g m same v s)
                ∙ ap (λ (a : Region). (taking (with_region r a) (map Ptrn vs) (put g v m)).registers) (e 1) ∙ k.is;
            sound = k.sound;
          }

  -- after all its pixels no region is open
  record Filled (vs : List ℕ) (g : Region) (m : Memories) : Type 0 where
    is : (taking (at 1 g) (map Ptrn vs) m).registers ≡ with_region r no_region
    sound : in_bounds (with_region r no_region) ≡ true

  fills : (vs : List ℕ) (g : Region) (m : Memories) → Same m → in_bounds (at 1 g) ≡ true → length vs ≡ remaining g + 1 → Filled vs g m
  fills [] g m same s l = absurd (omega (arith, l))
  fills (v ∷ vs) g m same s l = go (goes_of g) (λ h b k. fills vs h (put g v m) (put_same g v m same) b k)
    where
      onward_is : {k : Region} → next_pixel (turned 1 g) ≡ k
          → (taking (at 1 g) (map Ptrn (v ∷ vs)) m).registers ≡ (taking (with_region r k) (map Ptrn vs) (put g v m)).registers
      onward_is e =
          ap (λ (o : Outcome Registers Memories). (taking o.registers (map Ptrn vs) o.memories).registers) (ptrn_step g m same v s)
          ∙ ap (λ (a : Region). (taking (with_region r a) (map Ptrn vs) (put g v m)).registers) e

      go : Goes g → ((h : Region) → in_bounds (at 1 h) ≡ true → length vs ≡ remaining h + 1 → Filled vs h (put g v m)) → Filled (v ∷ vs) g m
      go (ends e z) rest =
          record {
            is = onward_is (e 1) ∙ ap (λ (a : State Registers Memories). a.registers) (shut vs (put g v m));
            sound = subst (λ (a : Region). in_bounds (with_region r a) ≡ true) (e 1) (ptrn_next g m same v s);
          }
      go (goes x y e less) rest =
          let k = rest (moved g x y) (subst (λ (a : Region). in_bounds (with_region r a) ≡ true) (e 1) (ptrn_next g m same v s)) (omega (arith, l, less)) in
          record { is = onward_is (e 1) ∙ k.is; sound = k.sound }

  -- with no region open PTRN is refused with 14
  ptrn_shut : (v : ℕ) (m : Memories) → Same m → in_bounds (with_region r no_region) ≡ true → number_of chip (with_region r no_region) (Ptrn v) m ≡ 14
  ptrn_shut v m same s =
      (given_14 (length m.i) (length m.z) (with_region r no_region) (Ptrn v)).1
      (refl, (refl, (fit, (begun, (refl, (refl, (idle, (refl, (refl, (refl, (refl, (refl, (refl, (refl, tt))))))))))))))
    where
      fit : is_unfit (length m.i) (length m.z) (with_region r no_region) ≡ false
      fit = rw (eq-eqb _ _ same, s)

  -- ---- saved and reloaded

  pour : (m : Memories) → Same m → Word16 r.modes.planes → Low m.i → (n : ℕ) (g : Region) → in_bounds (at 1 g) ≡ true → in_bounds (at 2 g) ≡ true
      → (taking (at 1 g) (map Ptrn (reads n (at 2 g) m)) m).memories ≡ m
  unfolding reads
  pour m same planes low zero g s₁ s₂ = refl
  pour m same planes low (suc n) g s₁ s₂ =
      ap (λ (a : ReadOutcome). (taking (at 1 g) (Ptrn a.pixel ∷ map Ptrn (reads n a.registers m)) m).memories) (read_step g m same s₂)
      ∙ ap (λ (o : Outcome Registers Memories). (taking o.registers (map Ptrn (reads n next m)) o.memories).memories) back
      ∙ go (goes_of g) (λ h a b. pour m same planes low n h a b)
    where
      v : ℕ
      v = look m g.x g.y

      next : Registers
      next = with_region r (next_pixel (turned 2 g))

      back : step_of chip (at 1 g) (Ptrn v) m ≡ outcome 0 0 (with_region r (next_pixel (turned 1 g))) m
      back =
          ptrn_step g m same v s₁
          ∙ ap (λ (p : Picture). outcome 0 0 (with_region r (next_pixel (turned 1 g))) (memories p.i p.z))
          (read_stored (pen_of r) m.i m.z (is_deep_picture r) g.x g.y planes low)

      go : Goes g → ((h : Region) → in_bounds (at 1 h) ≡ true → in_bounds (at 2 h) ≡ true → (taking (at 1 h) (map Ptrn (reads n (at 2 h) m)) m).memories ≡ m)
          → (taking (with_region r (next_pixel (turned 1 g))) (map Ptrn (reads n next m)) m).memories ≡ m
      go (ends e z) rest =
          ap (λ (a : Region). (taking (with_region r a) (map Ptrn (reads n next m)) m).memories) (e 1)
          ∙ ap (λ (s : State Registers Memories). s.memories) (shut (reads n next m) m)
      go (goes x y e less) rest =
          ap₂ (λ (a b : Region). (taking (with_region r a) (map Ptrn (reads n (with_region r b) m)) m).memories) (e 1) (e 2)
          ∙ rest (moved g x y)
          (subst (λ (a : Region). in_bounds (with_region r a) ≡ true) (e 1) (ptrn_next g m same v s₁))
          (subst (λ (a : Region). in_bounds (with_region r a) ≡ true) (e 2) (read_next g m same s₂))

  -- ---- loaded and read back

  -- a pixel that the walk has left keeps its number
  keeps : (vs : List ℕ) (g : Region) (m : Memories) → Same m → in_bounds (at 1 g) ≡ true → (x y : ℕ) → remaining g < remaining (moved g x y)
      → look (taking (at 1 g) (map Ptrn vs) m).memories x y ≡ look m x y
  keeps [] g m same s x y l = refl
  keeps (v ∷ vs) g m same s x y l =
      ap (λ (o : Outcome Registers Memories). look (taking o.registers (map Ptrn vs) o.memories).memories x y) (ptrn_step g m same v s)
      ∙ go (goes_of g) (λ h b l'. keeps vs h (put g v m) (put_same g v m same) b x y l')
      ∙ read_elsewhere (pen_of r) m.i m.z (is_deep_picture r) g.x g.y v (is_deep_picture r) x y
      (λ p. let q : remaining (moved g x y) ≡ remaining g = ap₂ (λ (a b : ℕ). remaining (moved g a b)) (sym p.0) (sym p.1) in omega (arith, l, q))
    where
      go : Goes g → ((h : Region) → in_bounds (at 1 h) ≡ true → remaining h < remaining (moved h x y) → look (taking (at 1 h) (map Ptrn vs) (put g v m)).memories x y ≡ look (put g v m) x y)
          → look (taking (with_region r (next_pixel (turned 1 g))) (map Ptrn vs) (put g v m)).memories x y ≡ look (put g v m) x y
      go (ends e z) rest =
          ap (λ (a : Region). look (taking (with_region r a) (map Ptrn vs) (put g v m)).memories x y) (e 1)
          ∙ ap (λ (q : State Registers Memories). look q.memories x y) (shut vs (put g v m))
      go (goes a b e less) rest =
          ap (λ (k : Region). look (taking (with_region r k) (map Ptrn vs) (put g v m)).memories x y) (e 1)
          ∙ rest (moved g a b) (subst (λ (k : Region). in_bounds (with_region r k) ≡ true) (e 1) (ptrn_next g m same v s)) (omega (arith, l, less))

  module _ (ion : is_on i_bit r.modes.hcontrol ≡ true) (zon : is_on z_bit r.modes.hcontrol ≡ true) (all : r.modes.planes ≡ 65535) where
    -- what is read where a number was just stored
    put_look : (g : Region) (v : ℕ) (m : Memories) → v ≤ 65535
        → look (put g v m) g.x g.y ≡ cond (in_memory r.frame (rows_of r.frame (length m.i) (length m.z)) g.x g.y) v 0
    put_look g v m low = go (in_memory r.frame (rows_of r.frame (length m.i) (length m.z)) g.x g.y) refl
      where
        go : (b : Bool) → in_memory r.frame (rows_of r.frame (length m.i) (length m.z)) g.x g.y ≡ b → look (put g v m) g.x g.y ≡ cond b v 0
        go true e = read_back_lem (pen_of r) m.i m.z (is_deep_picture r) g.x g.y v ion zon all low e
        go false e =
            sym (read_outside r.frame (put g v m).i (put g v m).z g.x g.y (is_deep_picture r)
            (ap (λ (rows : ℕ). in_memory r.frame rows g.x g.y) (put_rows g v m) ∙ e))

    no_more : (vs : List ℕ) (q : Registers) (m : Memories) (rows : ℕ) (g : Region) → length vs ≡ 0 → reads (length vs) q m ≡ read_back_of r.frame rows g vs
    unfolding reads read_back_of
    no_more [] q m rows g e = refl
    no_more (v ∷ vs) q m rows g e = absurd (omega (arith, e))

    back : (vs : List ℕ) (g : Region) (m : Memories) → Same m → in_bounds (at 1 g) ≡ true → in_bounds (at 2 g) ≡ true → ((k : ℕ) → Word16 (get_or vs k 0))
        → length vs ≤ remaining g + 1
        → reads (length vs) (at 2 g) (taking (at 1 g) (map Ptrn vs) m).memories ≡ read_back_of r.frame (rows_of r.frame (length m.i) (length m.z)) (turned 1 g) vs
    unfolding reads read_back_of
    back [] g m same s₁ s₂ low l = refl
    back (v ∷ vs) g m same s₁ s₂ low l =
        ap (λ (o : Outcome Registers Memories). reads (suc (length vs)) (at 2 g) (taking o.registers (map Ptrn vs) o.memories).memories) (ptrn_step g m same v s₁)
        ∙ ap (λ (a : ReadOutcome). a.pixel ∷ reads (length vs) a.registers end) (read_step g end end_same s₂)
        ∙ go (goes_of g) (λ h s t l'. back vs h (put g v m) (put_same g v m same) s t (λ k. low (suc k)) l')
      where
        rows : ℕ
        rows = rows_of r.frame (length m.i) (length m.z)

        end : Memories
        end = (taking (with_region r (next_pixel (turned 1 g))) (map Ptrn vs) (put g v m)).memories

        end_same : Same end
        end_same = taken_same (map Ptrn vs) (with_region r (next_pixel (turned 1 g))) (put g v m) (put_same g v m same)

        go : Goes g
            → ((h : Region) → in_bounds (at 1 h) ≡ true → in_bounds (at 2 h) ≡ true → length vs ≤ remaining h + 1
            → reads (length vs) (at 2 h) (taking (at 1 h) (map Ptrn vs) (put g v m)).memories
            ≡ read_back_of r.frame (rows_of r.frame (length (put g v m).i) (length (put g v m).z)) (turned 1 h) vs)
            → look end g.x g.y ∷ reads (length vs) (with_region r (next_pixel (turned 2 g))) end
            ≡ cond (in_memory r.frame rows g.x g.y) v 0 ∷ read_back_of r.frame rows (next_pixel (turned 1 g)) vs
        go (ends e z) rest =
            ap₂ (λ (a : ℕ) (l : List ℕ). a ∷ l)
            (ap (λ (a : Region). look (taking (with_region r a) (map Ptrn vs) (put g v m)).memories g.x g.y) (e 1)
            ∙ ap (λ (q : State Registers Memories). look q.memories g.x g.y) (shut vs (put g v m)) ∙ put_look g v m (low 0))
            (no_more vs (with_region r (next_pixel (turned 2 g))) end rows (next_pixel (turned 1 g)) (omega (arith, l, z)))
        go (goes x y e less) rest =
            let s : in_bounds (at 1 (moved g x y)) ≡ true = subst (λ (a : Region). in_bounds (with_region r a) ≡ true) (e 1) (ptrn_next g m same v s₁) in
            let t : in_bounds (at 2 (moved g x y)) ≡ true = subst (λ (a : Region). in_bounds (with_region r a) ≡ true) (e 2) (read_next g m same s₂) in
            let h : length vs ≤ remaining (moved g x y) + 1 = omega (arith, l, less) in
            let b : remaining (moved g x y) < remaining g = omega (arith, less) in
            ap₂ (λ (a : ℕ) (l : List ℕ). a ∷ l)
            (ap (λ (a : Region). look (taking (with_region r a) (map Ptrn vs) (put g v m)).memories g.x g.y) (e 1)
            ∙ keeps vs (moved g x y) (put g v m) (put_same g v m same) s g.x g.y b ∙ put_look g v m (low 0))
            (ap₂ (λ (a b : Region). reads (length vs) (with_region r b) (taking (with_region r a) (map Ptrn vs) (put g v m)).memories) (e 1) (e 2)
            ∙ rest (moved g x y) s t h
            ∙ ap₂ (λ (n : ℕ) (a : Region). read_back_of r.frame n a vs) (put_rows g v m) (sym (e 1)))

-- ---- the theorem

module _ (c : Corners) (r : Registers) (m : Memories) (k : Allowed c) (q : Ready r m) where
  -- the registers with nothing awaited, and a region of these corners
  abbrev calm : Registers
  calm = with_parked r nothing_awaited

  abbrev first : Region
  first = region_of 0 c.x0 c.y0 c.x1 c.y1

  calm_idle : awaits calm ≡ false
  unfolding subcommand_of
  calm_idle = refl

  -- registers that differ from them in the region take IMG again
  ready_again : (g : Region) (m' : Memories) → Same m' → in_bounds (with_region calm g) ≡ true → Ready (with_region calm g) m'
  ready_again g m' same s = record { same = same; sound = s; begun = q.begun; idle = calm_idle }

  -- the words that open a region, and then its pixels
  loaded : (p : Registers) (ps : List ℕ) (m' : Memories) → Ready p m' → loading c ps p m' ≡ taking (opened_as 1 c p) (map Ptrn ps) m'
  loaded p ps m' h =
      foldl-append (onward (step_of chip)) (state p m') (opening 0 c) (map Ptrn ps)
      ∙ ap (λ (s : State Registers Memories). foldl (onward (step_of chip)) s (map Ptrn ps)) (opened 0 (omega arith) c p m' k h).0

  taken : (n : ℕ) → n < size_of c → read_number (saving_leaves n c r m) m ≡ 0
  taken n l =
      let out = opened 1 (omega arith) c r m k q in
      let s = stands calm q.begun calm_idle n first m q.same out.1 (omega (arith, l, size_remaining 0 c)) in
      ap (λ (a : State Registers Memories). read_number (reads_leave n a.registers m) m) out.0
      ∙ ap (λ (a : Registers). read_number a m) s.is ∙ read_on_lem calm q.begun calm_idle s.here m q.same s.sound

  used_up : read_number (saving_leaves (size_of c) c r m) m ≡ 14
  used_up =
      let out = opened 1 (omega arith) c r m k q in
      let n = remaining first in
      let size : size_of c ≡ suc n = omega (arith, size_remaining 0 c) in
      let s = stands calm q.begun calm_idle n first m q.same out.1 (omega arith) in
      ap (λ (a : State Registers Memories). read_number (reads_leave (size_of c) a.registers m) m) out.0
      ∙ ap (λ (j : ℕ). read_number (reads_leave j (with_region calm (turned 2 first)) m) m) size
      ∙ ap (λ (a : Registers). read_number a m) (reads_more n (with_region calm (turned 2 first)) m)
      ∙ ap (λ (a : Registers). read_number (reading a m).registers m) s.is
      ∙ read_ends calm q.begun calm_idle s.here m q.same s.sound (omega (arith, s.less))

  -- the number that PTRN gets after some pixels
  abbrev after_load : List ℕ → ℕ → ℕ
  after_load pixels v = number_of chip (loading c pixels r m).registers (Ptrn v) (loading c pixels r m).memories

  -- their registers being known
  after_pixels : (pixels : List ℕ) (v : ℕ) {p : Registers} → (taking (opened_as 1 c r) (map Ptrn pixels) m).registers ≡ p
      → after_load pixels v ≡ number_of chip p (Ptrn v) (taking (opened_as 1 c r) (map Ptrn pixels) m).memories
  after_pixels pixels v e =
      ap (λ (a : State Registers Memories). number_of chip a.registers (Ptrn v) a.memories) (loaded r pixels m q)
      ∙ ap (λ (p : Registers). number_of chip p (Ptrn v) (taking (opened_as 1 c r) (map Ptrn pixels) m).memories) e

  stored : (pixels : List ℕ) (v : ℕ) → length pixels < size_of c → after_load pixels v ≡ 0
  stored pixels v l =
      let into = opened 0 (omega arith) c r m k q in
      let s = holds calm q.begun calm_idle pixels first m q.same into.1 (omega (arith, l, size_remaining 0 c)) in
      let end = (taking (opened_as 1 c r) (map Ptrn pixels) m).memories in
      after_pixels pixels v s.is
      ∙ ptrn_on calm q.begun calm_idle s.here end (taken_same (map Ptrn pixels) (opened_as 1 c r) m q.same) v s.sound

  full : (pixels : List ℕ) (v : ℕ) → length pixels ≡ size_of c → after_load pixels v ≡ 14
  full pixels v l =
      let into = opened 0 (omega arith) c r m k q in
      let s = fills calm q.begun calm_idle pixels first m q.same into.1 (omega (arith, l, size_remaining 0 c)) in
      let end = (taking (opened_as 1 c r) (map Ptrn pixels) m).memories in
      after_pixels pixels v s.is
      ∙ ptrn_shut calm q.begun calm_idle v end (taken_same (map Ptrn pixels) (opened_as 1 c r) m q.same) s.sound

  row_by_row : (n i j : ℕ) → i ≤ apart c.x0 c.x1 → j ≤ apart c.y0 c.y1 → i + j * (apart c.x0 c.x1 + 1) < n → n ≤ size_of c
      → get_or (saving n c r m) (i + j * (apart c.x0 c.x1 + 1)) 0
      ≡ read_of r.frame (is_deep_picture r) (stepped c.x0 c.x1 i) (stepped c.y0 c.y1 j) m.i m.z
  row_by_row n i j h l t u =
      let out = opened 1 (omega arith) c r m k q in
      let at = i + j * (apart c.x0 c.x1 + 1) in
      ap (λ (a : State Registers Memories). get_or (reads n a.registers m) at 0) out.0
      ∙ read_at calm q.begun calm_idle n at first m q.same out.1 t (omega (arith, t, u, size_remaining 0 c))
      ∙ ap (λ (g : Region). read_of r.frame (is_deep_picture r) g.x g.y m.i m.z) (stands_at 2 c i j h l)

  unchanged : (n : ℕ) → Word16 r.modes.planes → Low m.i → (loading c (saving n c r m) (saving_leaves n c r m) m).memories ≡ m
  unchanged n planes low =
      let out = opened 1 (omega arith) c r m k q in
      let kept = reads_leave_lem calm q.begun calm_idle n (turned 2 first) m out.1 in
      let s : in_bounds (with_region calm kept.region) ≡ true = subst (λ (p : Registers). in_bounds p ≡ true) kept.is kept.sound in
      let again = ready_again kept.region m q.same s in
      ap (λ (a : State Registers Memories). (loading c (reads n a.registers m) (reads_leave n a.registers m) m).memories) out.0
      ∙ ap (λ (p : Registers). (loading c (reads n (with_region calm (turned 2 first)) m) p m).memories) kept.is
      ∙ ap (λ (a : State Registers Memories). a.memories) (loaded (with_region calm kept.region) (reads n (with_region calm (turned 2 first)) m) m again)
      ∙ pour calm q.begun calm_idle m q.same planes low n first (opened 0 (omega arith) c (with_region calm kept.region) m k again).1 out.1

  reread : (pixels : List ℕ) → is_on i_bit r.modes.hcontrol ≡ true → is_on z_bit r.modes.hcontrol ≡ true → r.modes.planes ≡ 65535
      → ((i : ℕ) → Word16 (get_or pixels i 0)) → length pixels ≤ size_of c
      → saving (length pixels) c (loading c pixels r m).registers (loading c pixels r m).memories
      ≡ read_back_of r.frame (rows_of r.frame (length m.i) (length m.z)) (region_of 1 c.x0 c.y0 c.x1 c.y1) pixels
  reread pixels ion zon all low l =
      let into = opened 0 (omega arith) c r m k q in
      let kept = loads_leave calm q.begun calm_idle pixels (turned 1 first) m into.1 in
      let end = taking (with_region calm (turned 1 first)) (map Ptrn pixels) m in
      let same = taken_same (map Ptrn pixels) (with_region calm (turned 1 first)) m q.same in
      let s : in_bounds (with_region calm kept.region) ≡ true = subst (λ (p : Registers). in_bounds p ≡ true) kept.is kept.sound in
      let out = opened 1 (omega arith) c (with_region calm kept.region) end.memories k (ready_again kept.region end.memories same s) in
      let room : length pixels ≤ remaining first + 1 = omega (arith, l, size_remaining 0 c) in
      ap (λ (a : State Registers Memories). saving (length pixels) c a.registers a.memories) (loaded r pixels m q)
      ∙ ap (λ (p : Registers). saving (length pixels) c p end.memories) kept.is
      ∙ ap (λ (a : State Registers Memories). reads (length pixels) a.registers end.memories) out.0
      ∙ back calm q.begun calm_idle ion zon all pixels first m q.same into.1 out.1 low room

-- a region saved and at once reloaded leaves the memories as they were, and what is loaded is read back
pub reload : Reload
reload =
    record {
      taken = λ c r m n k q l. taken c r m k q n l;
      used_up = λ c r m k q. used_up c r m k q;
      stored = λ c r m pixels v k q l. stored c r m k q pixels v l;
      full = λ c r m pixels v k q l. full c r m k q pixels v l;
      row_by_row = λ c r m n i j k q h l t u. row_by_row c r m k q n i j h l t u;
      unchanged = λ c r m n k q planes low. unchanged c r m k q n planes low;
      read_back = λ c r m pixels k q ion zon all low l. reread c r m k q pixels ion zon all low l;
    }
