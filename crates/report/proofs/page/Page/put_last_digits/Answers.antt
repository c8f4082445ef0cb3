-- `page::Page::put_last_digits` meets its contract. The invariant of its loop: the digits of the rest are left to store. Assumes nothing.
use Rattle.std.proofs.Common.{◌≡◌, ℕ, ◌+◌, ◌-◌, sym, ap, ◌∙◌, arith}
use Rattle.report.proofs.Decimal.{length_digits}
use Rattle.report.proofs.Putting.{put_last, put_all}
use Rattle.report.proofs.page.Page.put_last_digits.Goals as goal

pub loop-k-preserved : goal.loop-k-preserved
loop-k-preserved c =
    let a = c.args in
    let one : c.loop-k.k - 1 + 1 ≡ c.loop-k.k = omega arith in
    let here = c.loop-k.invariant.at in
    record {
      put = rw here (rw one at (put_last a.base (c.loop-k.k - 1) c.loop-k.rest a.self.now.at c.loop-k.self.out.now c.character.ensures)) ∙ c.loop-k.invariant.put;
      at = here;
      same = c.loop-k.invariant.same;
    }

pub returns : goal.returns
returns c =
    let a = c.args in
    let none : c.loop-k.k ≡ 0 = omega arith in
    record {
      put = record {
        stands = sym (put_all a.base c.loop-k.rest a.self.now.at c.loop-k.self.out.now) ∙ rw none at c.loop-k.invariant.put;
        ends = ap (λ (k : ℕ). k + a.count) c.loop-k.invariant.at ∙ ap (λ (k : ℕ). a.self.now.at + k) (sym (length_digits a.base a.count a.n));
      };
      same = c.loop-k.invariant.same;
    }
