-- `sort::sort` meets its contract. Assumes nothing.
use mathlib.Core.Path.{◌∙◌, refl}
use Prim.Native.Nat.{◌^◌, ◌<◌}
use native.Mathlib.Omega.{arith}
use Rattle.std.specs.Prelude.{None, Some}
use Rattle.ground.proofs.Numbers.{number_positive}
use Rattle.stream.proofs.Bits.{none, more, fits_test}
use Rattle.stream.proofs.Round.{word_fits}
use Rattle.mending.specs.Sort.{Waits}
use Rattle.mending.proofs.Sorting.{put_even, pair_room, sorted_kept, list_room, sorted_dropped, last_room, sorted_end, waits_next, sorted_waits}
use Rattle.mending.proofs.sort.sort.Goals.{in-Ok, in-Err}
use Rattle.mending.proofs.sort.sort.Goals as goal

pub tried-requires : goal.tried-requires
tried-requires c = omega (arith, c.word-w.ensures, word_fits c.args.bytes.now c.loop-k.k)

pub put_kept-waiting-requires : goal.put_kept-waiting-requires
put_kept-waiting-requires c =
    let i = c.loop-k.invariant in
    let read = c.word-w in
    let short : read.result < 2 ^ 20 = omega (arith, read.ensures, word_fits c.args.bytes.now c.loop-k.k) in record {
      waits = i.waits;
      words_value = fits_test (more i.so_far_lem.small (more short none));
      words_in_bounds = pair_room _ _ _ _ c.requires i.so_far_lem (rw (c.held-k-end.ensures, i.all) at c.loop-k-test.true) (rw i.all at read.ensures) c.in-Ok.ensures
          refl i.stream_long;
    }

pub put_dropped-requires : goal.put_dropped-requires
put_dropped-requires c =
    let i = c.loop-k.invariant in
    let room = c.requires in
    let h =
    list_room _ _ _ _ room i.so_far_lem (rw (c.held-k-end.ensures, i.all) at c.loop-k-test.true) (rw i.all at c.word-w.ensures) c.in-Err.ensures
    (λ z. omega (arith, number_positive c.in-Err.refusal, z)) in
    record { d_in_bounds = omega (arith, h, room.places, i.places_long); d_in_bounds_2 = omega (arith, h, room.reasons, i.reasons_long) }

pub loop-k-preserved : goal.loop-k-preserved
loop-k-preserved c =
    let i = c.loop-k.invariant in
    let below = rw (c.held-k-end.ensures, i.all) at c.loop-k-test.true in
    let read = rw i.all at c.word-w.ensures in
    elim c.match-tried.branch [
      | in-Ok w ↦
          let put = w.put_kept-waiting in
          rw (w.out-is, w.indices-is, w.numbers-is, w.r-is, w.waiting-is, w.j-is, w.d-is, put.ensures.next)
          (record {
            all = omega (arith, i.all);
            waits = waits_next c.loop-k.waiting c.loop-k.j c.word-w.result i.waits;
            stream_long = put.auto.out ∙ i.stream_long;
            places_long = i.places_long;
            reasons_long = i.reasons_long;
            so_far_lem =
                sorted_waits _ _ _ _ c.loop-k.waiting c.loop-k.j i.waits
                (sorted_kept _ _ _ _ c.requires i.so_far_lem below read w.in-Ok.ensures refl put.ensures.stream);
          })
      | in-Err w ↦
          let put = w.put_dropped in
          rw (w.out-is, w.indices-is, w.numbers-is, w.r-is, w.waiting-is, w.j-is, w.d-is)
          (record {
            all = omega (arith, i.all);
            waits = i.waits;
            stream_long = i.stream_long;
            places_long = put.auto.indices ∙ i.places_long;
            reasons_long = put.auto.numbers ∙ i.reasons_long;
            so_far_lem =
                sorted_dropped _ _ _ _ c.requires i.so_far_lem below read w.in-Err.ensures (λ z. omega (arith, number_positive w.in-Err.refusal, z))
                (rw i.all at put.ensures.0) put.ensures.1;
          })
    ]

pub put_words-requires : goal.put_words-requires
put_words-requires c =
    let i = c.loop-k.invariant in
    let room = c.requires in
    let odd : Waits (Some c.in-Some.last) c.loop-k.j = rw c.in-Some.is at i.waits in
    let so = rw c.in-Some.is at i.so_far_lem in
    record {
      odd = odd;
      words_value = fits_test (more so.small none);
      words_in_bounds = last_room _ _ _ _ room so (rw (c.held-k-end.ensures, i.all) at c.loop-k-test.false) i.stream_long odd;
    }

pub returns-in-Some : goal.returns-in-Some
returns-in-Some c =
    let i = c.loop-k.invariant in
    let so = rw c.in-Some.is at i.so_far_lem in
    sorted_end _ _ _ _ c.requires so (rw (c.held-k-end.ensures, i.all) at c.loop-k-test.false) c.put_words.ensures

pub returns-in_default : goal.returns-in_default
returns-in_default c =
    let i = c.loop-k.invariant in
    let even : Waits None c.loop-k.j = rw c.in_default.is at i.waits in
    sorted_end _ _ _ _ c.requires i.so_far_lem (rw (c.held-k-end.ensures, i.all) at c.loop-k-test.false) (put_even _ _ _ (λ odd. absurd (omega arith)))
