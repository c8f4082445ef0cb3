-- `text::put_front` meets its contract. The invariant of its loop: what is left of the number is left to store. Assumes nothing.
use Rattle.std.proofs.Common.{◌≡◌, ℕ, ◌+◌, ◌-◌, sym, ap, ◌∙◌, arith}
use Rattle.overdraw.proofs.Lines.{length_front, put_next, put_all}
use Rattle.overdraw.proofs.text.put_front.Goals as goal

pub loop-k-preserved : goal.loop-k-preserved
loop-k-preserved c =
    let a = c.args in
    let one : c.loop-k.k - 1 + 1 ≡ c.loop-k.k = omega arith in
    let here = c.loop-k.invariant.at in
    record {
      put = rw here (rw one at (put_next (c.loop-k.k - 1) c.loop-k.rest a.page.now.at c.loop-k.page.out.now c.glyph_of.ensures)) ∙ c.loop-k.invariant.put;
      at = here;
      same = c.loop-k.invariant.same;
    }

pub returns : goal.returns
returns c =
    let a = c.args in
    let none : c.loop-k.k ≡ 0 = omega arith in
    record {
      put = record {
        stands = sym (put_all c.loop-k.rest a.page.now.at c.loop-k.page.out.now) ∙ rw none at c.loop-k.invariant.put;
        ends = ap (λ (k : ℕ). k + a.width) c.loop-k.invariant.at ∙ ap (λ (k : ℕ). a.page.now.at + k) (sym (length_front a.width a.n));
      };
      same = c.loop-k.invariant.same;
    }
