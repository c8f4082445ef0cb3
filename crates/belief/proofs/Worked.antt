-- The worked runs: what is supposed of them and what they offer is computed, and demand 3 tells how they end. Assumes nothing.
use mathlib.Core.Path.{◌≡◌, refl, ap, ap₂, ◌∙◌}
use mathlib.Core.Bool.{true}
use mathlib.Core.List.{List, map}
use Prim.Native.Nat.{ℕ}
use lib.ListN.{length}
use Rattle.picture.specs.Offer.{Offer}
use Rattle.picture.specs.Cell.{cell}
use Rattle.registers.specs.Record.{reset_of}
use Rattle.registers.specs.Word.{word_of}
use Rattle.machine.specs.Machine.{Memories, step_of}
use Rattle.machine.specs.Touched.{cell_in}
use Rattle.machine.specs.Offers.{all_of}
use Rattle.chip.specs.Chip.{chip}
use Rattle.belief.specs.Belief.{offers_of, supposed, least, earliest, last_line, unlined, intensity}
use Rattle.belief.specs.Worked.{scene, outline, blank, Owned, Worked}
use Rattle.belief.proofs.Demand3.{demand_3}
use Rattle.belief.proofs.Computed.{Meets, Offers, computed}

-- by demand 3 a place ends with what its offers come to
pub ends_with : (numbers : List ℕ) (m : Memories) → supposed reset_of (length m.i) (length m.z) (map word_of numbers) ≡ true
    → (at : ℕ) (os : List Offer) (i z : ℕ) → offers_of reset_of (length m.i) (length m.z) (map word_of numbers) at ≡ os
    → intensity (least (cell_in m at).z os) (cell_in m at) os ≡ i → least (cell_in m at).z os ≡ z
    → cell_in (all_of (step_of chip) reset_of (map word_of numbers) m).memories at ≡ cell i z
ends_with numbers m meets at os i z e shown depth =
    let k = (demand_3 0).words numbers m meets at in
    ap₂ cell (k.shown ∙ ap (λ (us : List Offer). intensity (least (cell_in m at).z us) (cell_in m at) us) e ∙ shown)
    (k.depth ∙ ap (least (cell_in m at).z) e ∙ depth)

owned : (numbers : List ℕ) → Meets numbers 512 → (at : ℕ) (os : List Offer) (i z : ℕ) → Offers numbers 512 at os
    → intensity (least (cell_in blank at).z os) (cell_in blank at) os ≡ i → least (cell_in blank at).z os ≡ z → Owned numbers at os i z
unfolding blank
owned numbers meets at os i z e shown depth = record { offers = e; ends = ends_with numbers blank meets at os i z e shown depth }

-- each of the two faces and the line owns a place, and ties go to lines
pub worked : Worked
unfolding blank least earliest last_line unlined intensity
worked =
    record {
      meets = computed.scene_meets;
      far_face_lem = owned scene computed.scene_meets 0 _ 100 20 computed.scene_0 refl refl;
      near_face_lem = owned scene computed.scene_meets 1 _ 200 10 computed.scene_1 refl refl;
      line = owned scene computed.scene_meets 2 _ 300 5 computed.scene_2 refl refl;
      after_init = owned scene computed.scene_meets 256 _ 400 15 computed.scene_256 refl refl;
      outlined = computed.outline_meets;
      edge = owned outline computed.outline_meets 0 _ 400 20 computed.outline_0 refl refl;
      edge_kept = owned outline computed.outline_meets 1 _ 300 20 computed.outline_1 refl refl;
      face = owned outline computed.outline_meets 2 _ 100 20 computed.outline_2 refl refl;
      farthest = owned outline computed.outline_meets 6 _ 500 65535 computed.outline_6 refl refl;
    }
