-- The worked runs, computed: they are such as demand 3 supposes, and offer so much at some places. Assumes nothing.
use mathlib.Core.Path.{◌≡◌, refl}
use mathlib.Core.Bool.{true}
use mathlib.Core.List.{List, [], ◌∷◌, map}
use Prim.Native.Nat.{ℕ}
use Rattle.picture.specs.Place.{layout_of, spot_of, place_of, is_whole, rows_in, rows_of, mine, in_memory}
use Rattle.picture.specs.declared.Kind.TheVariants.{Gouraud, Line2}
use Rattle.picture.specs.Offer.{Offer, offer, in_window, offered, keep}
use Rattle.picture.specs.Draw.{spans}
use Rattle.picture.specs.Cell.{there}
use Rattle.triangle.specs.Edge.{plus_of, minus_of, closed, inside, covers}
use Rattle.triangle.specs.Number.{mixed, shade}
use Rattle.triangle.specs.Offers.{pixel_at, pixel_offers, triangle_offers}
use Rattle.line.specs.Segment.{mode_of, larger, smaller, x_leads, side_at, x_at, y_at, number_at, shade_offers, segment_offers}
use Rattle.registers.specs.Lines.{line_of}
use Rattle.registers.specs.Record.{settings, reset_of}
use Rattle.registers.specs.Subcommand.{subcommand_of}
use Rattle.registers.specs.Word.{decode, word_of}
use Rattle.registers.specs.Figure.{shape_of, grown_of, completes}
use Rattle.registers.specs.Next.{effect_of, parm_of, coordinate_of, coordinate_completes, record_after, completed_by}
use Rattle.refusals.specs.Allowed.{init_allowed}
use Rattle.refusals.specs.Bounds.{frame_fits, modes_fit, window_fits, vertex_fits, figure_fits, parked_fits, region_fits, in_bounds}
use Rattle.refusals.specs.Refusal.{refusal_of}
use Rattle.machine.specs.Offers.{next_in, offers_in, offers_at, each_in}
use Rattle.chip.specs.Chip.{whole_offers, is_cut, figure_offers}
use Rattle.belief.specs.Belief.{offers_of, is_all_on, is_supposed, supposed}
use Rattle.belief.specs.Worked.{scene, outline}
use Rattle.belief.specs.WorkedOrder.{far_first, wide_faces, tied_last, tied_first, farthest_face, farthest_edge}

-- a run over so many places is such as demand 3 supposes
abbrev pub Meets : List ℕ → ℕ → Type 0
Meets numbers n = supposed reset_of n n (map word_of numbers) ≡ true

-- and offers so much at a place
abbrev pub Offers : List ℕ → ℕ → ℕ → List Offer → Type 0
Offers numbers n at os = offers_of reset_of n n (map word_of numbers) at ≡ os

-- the worked runs are such as demand 3 supposes, and this is what each offers at some places
pub record Computed : Type 0 where
  pub scene_meets : Meets scene 512
  pub scene_0 : Offers scene 512 0 (offer Gouraud 0 0 100 20 ∷ [])
  pub scene_1 : Offers scene 512 1 (offer Gouraud 1 0 200 10 ∷ offer Gouraud 1 0 100 20 ∷ [])
  pub scene_2 : Offers scene 512 2 (offer Gouraud 2 0 200 10 ∷ offer Gouraud 2 0 100 20 ∷ offer Line2 2 0 300 5 ∷ [])
  pub scene_256 : Offers scene 512 256 (offer Gouraud 0 1 100 20 ∷ offer Line2 256 0 400 15 ∷ [])
  pub outline_meets : Meets outline 512
  pub outline_0 : Offers outline 512 0 (offer Gouraud 0 0 100 20 ∷ offer Line2 0 0 300 20 ∷ offer Line2 0 0 400 20 ∷ [])
  pub outline_1 : Offers outline 512 1 (offer Gouraud 1 0 100 20 ∷ offer Line2 1 0 300 20 ∷ offer Line2 1 0 300 20 ∷ offer Gouraud 1 0 200 20 ∷ [])
  pub outline_2 : Offers outline 512 2 (offer Gouraud 2 0 100 20 ∷ offer Gouraud 2 0 200 20 ∷ [])
  pub outline_6 : Offers outline 512 6 (offer Line2 6 0 500 65535 ∷ [])
  pub far_first_meets : Meets far_first 512
  pub far_first_1 : Offers far_first 512 1 (offer Gouraud 1 0 100 20 ∷ offer Gouraud 1 0 200 10 ∷ [])
  pub far_first_2 : Offers far_first 512 2 (offer Gouraud 2 0 100 20 ∷ offer Gouraud 2 0 200 10 ∷ offer Line2 2 0 300 5 ∷ [])
  pub far_first_256 : Offers far_first 512 256 (offer Gouraud 0 1 100 20 ∷ offer Line2 256 0 400 15 ∷ [])
  pub wide_meets : Meets wide_faces 640
  pub wide_1 : Offers wide_faces 640 1 (offer Gouraud 1 0 100 20 ∷ offer Gouraud 1 0 200 10 ∷ [])
  pub tied_last_meets : Meets tied_last 512
  pub tied_last_1 : Offers tied_last 512 1 (offer Gouraud 1 0 100 20 ∷ offer Gouraud 1 0 200 20 ∷ [])
  pub tied_first_meets : Meets tied_first 512
  pub tied_first_1 : Offers tied_first 512 1 (offer Gouraud 1 0 200 20 ∷ offer Gouraud 1 0 100 20 ∷ [])
  pub farthest_face_meets : Meets farthest_face 512
  pub farthest_face_6 : Offers farthest_face 512 6 (offer Gouraud 6 0 500 65535 ∷ [])
  pub farthest_edge_meets : Meets farthest_edge 512
  pub farthest_edge_6 : Offers farthest_edge 512 6 (offer Line2 6 0 500 65535 ∷ [])

-- so it is, as computing each of them shows
pub computed : Computed
unfolding
    scene outline far_first wide_faces tied_last tied_first farthest_face farthest_edge is_all_on is_supposed each_in next_in refusal_of in_bounds
    frame_fits modes_fit window_fits vertex_fits figure_fits parked_fits region_fits init_allowed effect_of parm_of coordinate_of coordinate_completes
    record_after completed_by shape_of grown_of completes decode word_of subcommand_of settings line_of offers_in offers_at mode_of whole_offers is_cut
    figure_offers layout_of spot_of place_of is_whole rows_in rows_of mine in_memory in_window offered keep spans there plus_of minus_of closed inside
    covers mixed shade pixel_at pixel_offers triangle_offers larger smaller x_leads side_at x_at y_at number_at shade_offers segment_offers
computed =
    record {
      scene_meets = refl;
      scene_0 = refl;
      scene_1 = refl;
      scene_2 = refl;
      scene_256 = refl;
      outline_meets = refl;
      outline_0 = refl;
      outline_1 = refl;
      outline_2 = refl;
      outline_6 = refl;
      far_first_meets = refl;
      far_first_1 = refl;
      far_first_2 = refl;
      far_first_256 = refl;
      wide_meets = refl;
      wide_1 = refl;
      tied_last_meets = refl;
      tied_last_1 = refl;
      tied_first_meets = refl;
      tied_first_1 = refl;
      farthest_face_meets = refl;
      farthest_face_6 = refl;
      farthest_edge_meets = refl;
      farthest_edge_6 = refl;
    }
