-- The words that open a region, taken one after the other. Assumes nothing.
use mathlib.Core.Path.{◌≡◌, refl, sym, ap, ◌∙◌}
use mathlib.Core.Bool.{true, false, not}
use mathlib.Core.List.{List, [], ◌∷◌}
use Prim.Native.Nat.{ℕ, zero, suc, ◌+◌, ◌<◌}
use native.Mathlib.Omega.{arith}
use lib.ListN.{length}
use borrow.Author.Tests.{le-leb}
use Rattle.picture.specs.Place.{rows_of}
use Rattle.registers.specs.declared.Registers.{Registers}
use Rattle.registers.specs.declared.word.Word.{Word}
use Rattle.registers.specs.declared.word.Word.TheVariants.{Img, Parm}
use Rattle.registers.specs.declared.shape.Completed.TheVariants.{Nothing}
use Rattle.registers.specs.Record.{nothing_awaited, region_of, with_parked, with_region}
use Rattle.registers.specs.Subcommand.{subcommand_of}
use Rattle.registers.specs.Next.{awaited, effect_of, parm_of, record_after, completed_by}
use Rattle.refusals.specs.Allowed.{only_bits, img_bits, parameter_allowed}
use Rattle.refusals.specs.Bounds.{in_bounds}
use Rattle.refusals.specs.Refusal.{is_cold, awaits, refusal_of}
use Rattle.refusals.proofs.Refusals.{accepted_when}
use Rattle.refusals.proofs.Kept.{after_kept}
use Rattle.machine.specs.Run.{Outcome, outcome}
use Rattle.machine.specs.Machine.{Memories, step_of}
use Rattle.machine.specs.Offers.{state}
use Rattle.chip.specs.Chip.{word_stores, chip}
use Rattle.chip.proofs.Words.{word_quiet}
use Rattle.reload.specs.Reload.{Corners, opening, taking, Allowed, Ready}

-- a word is accepted that draws and stores nothing
module _ (r : Registers) (w : Word) (m : Memories) (e : refusal_of (length m.i) (length m.z) r w ≡ 0) where
  quiet_step : Nothing ≡ completed_by r w → word_stores (rows_of r.frame (length m.i) (length m.z)) r w ≡ [] → step_of chip r w m ≡ outcome 0 0 (record_after r w) m
  quiet_step completes unstored = sym (word_quiet r w m.i m.z refl e unstored refl completes refl)

  -- the words behind it are taken from there
  quiet_on : Nothing ≡ completed_by r w → word_stores (rows_of r.frame (length m.i) (length m.z)) r w ≡ [] → (ws : List Word)
      → taking r (w ∷ ws) m ≡ taking (record_after r w) ws m
  quiet_on completes unstored ws = ap (λ (o : Outcome Registers Memories). taking o.registers ws o.memories) (quiet_step completes unstored)

-- a parameter is accepted
record Takes (r : Registers) (v : ℕ) : Type 0 where
  begun : is_cold r ≡ false
  waits : awaits r ≡ true
  allowed : parameter_allowed (awaited r) r.parked.came v ≡ true

module _ (m : Memories) (same : length m.i ≡ length m.z) where
  img_taken : (r : Registers) (d : ℕ) → Ready r m → only_bits img_bits d ≡ true → refusal_of (length m.i) (length m.z) r (Img d) ≡ 0
  img_taken r d q a =
      (accepted_when (length m.i) (length m.z) r (Img d)).1
      (record {
        known = refl;
        same = same;
        sound = q.sound;
        begun = q.begun;
        assigned = refl;
        modelled = refl;
        expected = q.idle;
        wanted = refl;
        listed = refl;
        valued = a;
        fitting = refl;
        placed = refl;
      })

  parm_taken : (r : Registers) (v : ℕ) → in_bounds r ≡ true → Takes r v → refusal_of (length m.i) (length m.z) r (Parm v) ≡ 0
  parm_taken r v s t =
      (accepted_when (length m.i) (length m.z) r (Parm v)).1
      (record {
        known = refl;
        same = same;
        sound = s;
        begun = t.begun;
        assigned = refl;
        modelled = refl;
        expected = refl;
        wanted = ap not t.waits;
        listed = refl;
        valued = t.allowed;
        fitting = refl;
        placed = refl;
      })

  -- the five words, if each is such as is asked for
  module _ (r : Registers) (c : Corners) (d : ℕ) (q : Ready r m) (a : only_bits img_bits d ≡ true) where
    abbrev r₁ : Registers
    r₁ = record_after r (Img d)

    abbrev r₂ : Registers
    r₂ = record_after r₁ (Parm c.x0)

    abbrev r₃ : Registers
    r₃ = record_after r₂ (Parm c.y0)

    abbrev r₄ : Registers
    r₄ = record_after r₃ (Parm c.x1)

    abbrev r₅ : Registers
    r₅ = record_after r₄ (Parm c.y1)

    five : Takes r₁ c.x0 → Takes r₂ c.y0 → Takes r₃ c.x1 → Takes r₄ c.y1 → (taking r (opening d c) m ≡ state r₅ m) × (in_bounds r₅ ≡ true)
    unfolding completed_by word_stores
    five t₁ t₂ t₃ t₄ =
        let e₀ = img_taken r d q a in
        let e₁ = parm_taken r₁ c.x0 (after_kept (length m.i) (length m.z) r (Img d) e₀) t₁ in
        let e₂ = parm_taken r₂ c.y0 (after_kept (length m.i) (length m.z) r₁ (Parm c.x0) e₁) t₂ in
        let e₃ = parm_taken r₃ c.x1 (after_kept (length m.i) (length m.z) r₂ (Parm c.y0) e₂) t₃ in
        let e₄ = parm_taken r₄ c.y1 (after_kept (length m.i) (length m.z) r₃ (Parm c.x1) e₃) t₄ in (
          quiet_on r (Img d) m e₀ refl refl (Parm c.x0 ∷ Parm c.y0 ∷ Parm c.x1 ∷ Parm c.y1 ∷ [])
              ∙ quiet_on r₁ (Parm c.x0) m e₁ refl refl (Parm c.y0 ∷ Parm c.x1 ∷ Parm c.y1 ∷ [])
              ∙ quiet_on r₂ (Parm c.y0) m e₂ refl refl (Parm c.x1 ∷ Parm c.y1 ∷ [])
              ∙ quiet_on r₃ (Parm c.x1) m e₃ refl refl (Parm c.y1 ∷ [])
              ∙ quiet_on r₄ (Parm c.y1) m e₄ refl refl [],
          after_kept (length m.i) (length m.z) r₄ (Parm c.y1) e₄,
        )

-- with a region open, and nothing awaited
abbrev pub opened_as : ℕ → Corners → Registers → Registers
opened_as way c r = with_region (with_parked r nothing_awaited) (region_of way c.x0 c.y0 c.x1 c.y1)

-- IMG with 0 and its parameters open a region to memory, with 1 from memory; the memories stay
pub opened : (d : ℕ) → d < 2 → (c : Corners) (r : Registers) (m : Memories) → Allowed c → Ready r m
    → (taking r (opening d c) m ≡ state (opened_as (1 + d) c r) m) × (in_bounds (opened_as (1 + d) c r) ≡ true)
unfolding record_after parm_of effect_of subcommand_of
opened zero h c r m k q =
    five m q.same r c 0 q refl
    (record { begun = q.begun; waits = refl; allowed = le-leb _ _ k.x0 })
    (record { begun = q.begun; waits = refl; allowed = le-leb _ _ k.y0 })
    (record { begun = q.begun; waits = refl; allowed = le-leb _ _ k.x1 })
    (record { begun = q.begun; waits = refl; allowed = le-leb _ _ k.y1 })
opened (suc zero) h c r m k q =
    five m q.same r c 1 q refl
    (record { begun = q.begun; waits = refl; allowed = le-leb _ _ k.x0 })
    (record { begun = q.begun; waits = refl; allowed = le-leb _ _ k.y0 })
    (record { begun = q.begun; waits = refl; allowed = le-leb _ _ k.x1 })
    (record { begun = q.begun; waits = refl; allowed = le-leb _ _ k.y1 })
opened (suc (suc d)) h c r m k q = absurd (omega (arith, h))
