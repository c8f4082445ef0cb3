-- `take_all` meets its contract. Assumes nothing.
use Rattle.std.proofs.Common.{◌+◌, ◌-◌, refl, arith, rules}
use Rattle.instalments.proofs.Rows.{held_low, front_fits, rest_power, byte_fits}
use Rattle.instalments.proofs.Turns.{turned_first, turned_last, turned_short, turned_word, turned_refused}
use Rattle.instalments.proofs.take_all.Goals as goal

pub loop-k-init : goal.loop-k-init
loop-k-init c =
    record { i_long = refl; z_long = refl; so_far_lem = turned_first _ _ _ c.requires.s_value c.requires.over_value }

pub overflow_mul-held : goal.overflow_mul-held
overflow_mul-held c = let h = c.loop-k.invariant.so_far_lem in omega (arith, held_low _ _ h.few h.fits)

pub overflow_add-held : goal.overflow_add-held
overflow_add-held c =
    let h = c.loop-k.invariant.so_far_lem in
    omega (arith, held_low _ _ h.few h.fits, (c.type_inv.bytes c.loop-k.k).fits)

pub loop-k-preserved-then-count-lt20 : goal.loop-k-preserved-then-count-lt20
loop-k-preserved-then-count-lt20 c =
    let going = c.loop-k.invariant in
    record {
      i_long = going.i_long;
      z_long = going.z_long;
      so_far_lem =
          turned_short going.so_far_lem c.loop-k-test.true (c.type_inv.bytes c.loop-k.k).fits
          c.if-count-lt20.true;
    }

pub run_word-next-requires : goal.run_word-next-requires
run_word-next-requires c =
    let h = c.loop-k.invariant.so_far_lem in
    record { refusal_value = h.goes; w_bound = front_fits _ _ c.if-count-lt20.false (byte_fits _ _ _ (c.type_inv.bytes c.loop-k.k).fits h.fits) }

pub returns-then-next-ne0 : goal.returns-then-next-ne0
returns-then-next-ne0 c =
    turned_refused c.loop-k.invariant.so_far_lem c.loop-k-test.true (c.type_inv.bytes c.loop-k.k).fits c.if-count-lt20.false c.run_word-next.ensures c.if-next-ne0.true

pub loop-k-preserved : goal.loop-k-preserved
loop-k-preserved c =
    let h = c.loop-k.invariant.so_far_lem in
    record {
      i_long = search rules;
      z_long = search rules;
      so_far_lem =
          rw (rest_power (c.loop-k.count + 8 - 20) (omega (arith, h.few)))
          (turned_word h c.loop-k-test.true (c.type_inv.bytes c.loop-k.k).fits c.if-count-lt20.false c.run_word-next.ensures c.if-next-ne0.false);
    }

pub returns : goal.returns
returns c =
    let h = c.loop-k.invariant.so_far_lem in
    turned_last h c.loop-k-test.false
