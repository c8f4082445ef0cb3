-- What a machine keeps, word by word and over a run: lengths, what the registers promise, and memories that nothing may be stored into.
-- Assumes nothing.
use mathlib.Core.Path.{◌≡◌, refl, sym, ap₂, ◌∙◌, subst}
use mathlib.Core.List.{List}
use Prim.Native.Nat.{ℕ}
use lib.ListN.{length}
use Rattle.picture.specs.Place.{rows_of}
use Rattle.picture.specs.Picture.{picture}
use Rattle.picture.proofs.Fold.{drawn_i, drawn_z}
use Rattle.picture.proofs.Stores.{filled_i, filled_z, filled_leaves_i, filled_leaves_z}
use mathlib.Core.Bool.{Bool, true, false, ◌&&◌}
use Rattle.picture.proofs.Passed.{drawn_leaves_i, drawn_leaves_z, drawn_shallow}
use Rattle.machine.specs.Run.{Outcome, Ran, run_from}
use Rattle.machine.specs.Machine.{Machine, Memories, memories, rows_in, drawing, number_of, step_of}
use Rattle.machine.specs.Along.{Along}
use Rattle.machine.specs.Promises.{OffI, OffZ, Off, Shallow}
use Rattle.machine.proofs.Runs.{always_along, run_keeps, run_leaves}
use Rattle.machine.proofs.Steps.{step_accepted, step_either, step_number}

off : (b : Bool) → b && false ≡ false
off true = refl
off false = refl

-- ---- a word

module _ (M : Machine) (r : M.Registers) (w : M.Word) (m : Memories) where
  -- what an accepted word's drawing leaves of the memories, the word leaves
  pub step_leaves : {A : Type 0} (f : Memories → A) → (number_of M r w m ≡ 0 → f (memories (drawing M r w m).i (drawing M r w m).z) ≡ f m)
      → f (step_of M r w m).memories ≡ f m
  step_leaves f h = step_either M r w m (λ o. f o.memories ≡ f m) h (λ e. refl)

  -- a word keeps the length of the I memory
  pub step_length_i : length (step_of M r w m).memories.i ≡ length m.i
  step_length_i = step_leaves (λ (c : Memories). length c.i) (λ e. filled_i (M.pen r) (M.stores (rows_in M r m) r w) _ ∙ drawn_i (M.pen r) (M.offers (rows_in M r m) r w) (picture m.i m.z 0))

  -- and of the Z memory
  pub step_length_z : length (step_of M r w m).memories.z ≡ length m.z
  step_length_z = step_leaves (λ (c : Memories). length c.z) (λ e. filled_z (M.pen r) (M.stores (rows_in M r m) r w) _ ∙ drawn_z (M.pen r) (M.offers (rows_in M r m) r w) (picture m.i m.z 0))

  -- with the I enable off it leaves the I memory whole
  pub step_off_i : OffI M r w m → (step_of M r w m).memories.i ≡ m.i
  step_off_i h = step_leaves (λ (c : Memories). c.i) (λ e. filled_leaves_i (M.pen r) (M.stores (rows_in M r m) r w) _ h ∙ drawn_leaves_i (M.pen r) (M.offers (rows_in M r m) r w) (picture m.i m.z 0) h)

  -- with the Z enable off it leaves the Z memory whole
  pub step_off_z : OffZ M r w m → (step_of M r w m).memories.z ≡ m.z
  step_off_z h = step_leaves (λ (c : Memories). c.z) (λ e. filled_leaves_z (M.pen r) (M.stores (rows_in M r m) r w) _ (λ s u. rw h (off s.deep)) ∙ drawn_leaves_z (M.pen r) (M.offers (rows_in M r m) r w) (picture m.i m.z 0) h)

  -- with both off it leaves both
  pub step_off : Off M r w m → (step_of M r w m).memories ≡ m
  step_off h = ap₂ (λ (i z : List ℕ). memories i z) (step_off_i h.0) (step_off_z h.1)

  -- a word that offers nothing with depth leaves the Z memory whole
  pub step_shallow : Shallow M r w m → (step_of M r w m).memories.z ≡ m.z
  step_shallow h = step_leaves (λ (c : Memories). c.z) (λ e. filled_leaves_z (M.pen r) (M.stores (rows_in M r m) r w) _ (λ s u. rw (h.1 s u)) ∙ drawn_shallow (M.pen r) (M.offers (rows_in M r m) r w) (picture m.i m.z 0) h.0)

-- ---- a run

module _ (M : Machine) (ws : List M.Word) (a : Ran M.Registers Memories) where
  -- a run keeps the length of the I memory
  pub run_length_i : length (run_from (step_of M) a ws).memories.i ≡ length a.memories.i
  run_length_i =
      run_leaves (step_of M) (λ (c : Memories). length c.i) (λ r w m. Unit {0}) (λ r w m h. step_length_i M r w m) ws a
      (always_along (step_of M) (λ r w m. tt) ws a)

  -- and of the Z memory
  pub run_length_z : length (run_from (step_of M) a ws).memories.z ≡ length a.memories.z
  run_length_z =
      run_leaves (step_of M) (λ (c : Memories). length c.z) (λ r w m. Unit {0}) (λ r w m h. step_length_z M r w m) ws a
      (always_along (step_of M) (λ r w m. tt) ws a)

  -- so registers have the same rows in use after it as before
  pub run_rows : (r : M.Registers) → rows_in M r (run_from (step_of M) a ws).memories ≡ rows_in M r a.memories
  run_rows r = ap₂ (λ (i z : ℕ). rows_of (M.pen r).frame i z) run_length_i run_length_z

  -- with the I enable off at each word a run leaves the I memory whole
  pub run_off_i : Along (step_of M) (OffI M) a ws → (run_from (step_of M) a ws).memories.i ≡ a.memories.i
  run_off_i = run_leaves (step_of M) (λ (c : Memories). c.i) (OffI M) (step_off_i M) ws a

  -- with the Z enable off at each word it leaves the Z memory whole
  pub run_off_z : Along (step_of M) (OffZ M) a ws → (run_from (step_of M) a ws).memories.z ≡ a.memories.z
  run_off_z = run_leaves (step_of M) (λ (c : Memories). c.z) (OffZ M) (step_off_z M) ws a

  -- with both off at each word it leaves both
  pub run_off : Along (step_of M) (Off M) a ws → (run_from (step_of M) a ws).memories ≡ a.memories
  run_off = run_leaves (step_of M) (λ (c : Memories). c) (Off M) (step_off M) ws a

  -- a run that offers nothing with depth leaves the Z memory whole
  pub run_shallow : Along (step_of M) (Shallow M) a ws → (run_from (step_of M) a ws).memories.z ≡ a.memories.z
  run_shallow = run_leaves (step_of M) (λ (c : Memories). c.z) (Shallow M) (step_shallow M) ws a

  -- what every accepted word keeps of the registers holds where a run ends that began with it
  pub run_invariant : (P : M.Registers → Type 0) → ((r : M.Registers) (w : M.Word) (m : Memories) → number_of M r w m ≡ 0 → P r → P (M.next r w))
      → P a.registers → P (run_from (step_of M) a ws).registers
  run_invariant P each =
      run_keeps (step_of M) (λ r m. P r) (λ r w m. Unit {0})
      (λ r w m u e p.
      let number = sym (step_number M r w m) ∙ e in
      subst (λ (o : Outcome M.Registers Memories). P o.registers) (sym (step_accepted M r w m number)) (each r w m number p))
      ws a (always_along (step_of M) (λ r w m. tt) ws a)
