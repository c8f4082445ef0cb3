-- The worked line, computed. Assumes nothing.
use Rattle.std.proofs.Common.{refl}
use Rattle.picture.specs.Place.{layout_of, is_whole, rows_in, rows_of, mine, in_memory}
use Rattle.picture.specs.Offer.{in_window, shows, offered, keep}
use Rattle.picture.specs.Draw.{spans}
use Rattle.line.specs.Segment.{mode_of, larger, smaller, x_leads, side_at, x_at, y_at, is_set, first_of, from, dash_offers, segment_offers}
use Rattle.registers.specs.Lines.{line_of}
use Rattle.registers.specs.Record.{settings}
use Rattle.registers.specs.Subcommand.{subcommand_of}
use Rattle.registers.specs.Word.{decode, word_of}
use Rattle.registers.specs.Figure.{shape_of, grown_of, completes}
use Rattle.registers.specs.Next.{effect_of, parm_of, coordinate_of, coordinate_completes, record_after, completed_by}
use Rattle.refusals.specs.Allowed.{init_allowed}
use Rattle.refusals.specs.Bounds.{frame_fits, modes_fit, window_fits, vertex_fits, figure_fits, parked_fits, region_fits, in_bounds}
use Rattle.refusals.specs.Refusal.{refusal_of}
use Rattle.machine.specs.Offers.{next_in, offers_in, registers_in, each_in}
use Rattle.chip.specs.Chip.{whole_offers, is_cut, figure_offers}
use Rattle.chip.specs.Dashes.{offers_along}
use Rattle.chip.specs.WorkedLine.{begun, WorkedLine}

-- the worked line is dashed, offers those pixels and closes, as `WorkedLine` says
pub worked_line : WorkedLine
unfolding
    begun offers_along each_in next_in registers_in refusal_of in_bounds frame_fits modes_fit window_fits vertex_fits figure_fits parked_fits region_fits
    init_allowed effect_of parm_of coordinate_of coordinate_completes record_after completed_by shape_of grown_of completes decode word_of
    subcommand_of settings line_of offers_in mode_of whole_offers is_cut figure_offers layout_of is_whole rows_in rows_of mine in_memory in_window shows
    offered keep spans larger smaller x_leads side_at x_at y_at is_set first_of from dash_offers segment_offers
worked_line = record { dashed = refl; offers = refl; closed = refl }
