-- An image stands upright: where the number of a column and a row is. Assumes nothing.
use mathlib.Core.Path.{◌≡◌, refl, sym, ap, ◌∙◌}
use mathlib.Core.List.{List, [], ◌++◌, append_assoc, append-nil}
use Prim.Native.Nat.{ℕ, suc, ◌+◌, ◌-◌, ◌*◌, ◌<◌}
use native.Mathlib.Omega.{arith}
use lib.ListN.{length, get_or, length-append}
use Rattle.report.specs.Image.{image_heading, pixel, pixel_size, numbers, row_bytes, down, image, Holds}
use Rattle.report.proofs.Pages.{numbers_more, numbers_join, length_numbers, length_down, down_join}

-- a part of a part
holds_in : {text part inner : List ℕ} {at k : ℕ} → Holds text at part → Holds part k inner → Holds text (at + k) inner
holds_in {text} {part} {inner} p q = record {
  before = p.before ++ q.before;
  after = q.after ++ p.after;
  whole =
      p.whole
      ∙ ap (λ (l : List ℕ). p.before ++ l ++ p.after) q.whole
      ∙ regroup p.before q.before inner q.after p.after;
  place = omega (arith, p.place, q.place, length-append p.before q.before);
}
  where
    regroup : (a b c d e : List ℕ) → a ++ (b ++ c ++ d) ++ e ≡ a ++ b ++ c ++ (d ++ e)
    regroup a b c d e = simp (append_assoc)

module _ (most line : ℕ) (memory : List ℕ) where
  -- the topmost row, and those under it
  top_row : (y : ℕ) → down most line memory (1 + y) (1 + y) ≡ row_bytes most line memory y ++ down most line memory y y
  unfolding down
  top_row y =
      let rest : 1 + y - 1 ≡ y = omega arith in
      down_join most line memory (1 + y) 1 y ∙ ap (λ (k : ℕ). row_bytes most line memory k ++ down most line memory k y) rest

  -- a row stands under those above it
  row_held : (rows y : ℕ) → y < rows → Holds (down most line memory rows rows) ((rows - suc y) * (pixel_size most * line)) (row_bytes most line memory y)
  row_held rows y h =
      let a = rows - suc y in
      let above = down most line memory rows a in
      let all : a + (1 + y) ≡ rows = omega arith in
      let under : rows - a ≡ 1 + y = omega arith in
      record {
        before = above;
        after = down most line memory y y;
        whole =
            ap (down most line memory rows) (sym all)
            ∙ down_join most line memory rows a (1 + y)
            ∙ ap (λ (l : List ℕ). above ++ l) (ap (λ (k : ℕ). down most line memory k (1 + y)) under ∙ top_row y)
            ∙ sym (append_assoc above (row_bytes most line memory y) (down most line memory y y));
        place = sym (length_down most line memory rows a);
      }

  -- a number stands behind those of the columns before it
  number_held : (y x : ℕ) → x < line → Holds (row_bytes most line memory y) (pixel_size most * x) (pixel most (get_or memory (y * line + x) 0))
  unfolding row_bytes
  number_held y x h =
      let from = y * line in
      let rest = numbers most memory (from + (x + 1)) (line - (x + 1)) in
      let all : x + 1 + (line - (x + 1)) ≡ line = omega arith in
      record {
        before = numbers most memory from x;
        after = rest;
        whole =
            ap (numbers most memory from) (sym all)
            ∙ numbers_join most memory from (x + 1) (line - (x + 1))
            ∙ ap (λ (l : List ℕ). l ++ rest) (numbers_more most memory from x);
        place = sym (length_numbers most memory from x);
      }

  rows_held : (rows : ℕ) → Holds (image most line rows memory) (length (image_heading most line rows)) (down most line memory rows rows)
  unfolding image
  rows_held rows = record {
    before = image_heading most line rows;
    after = [];
    whole = sym (append-nil (image_heading most line rows ++ down most line memory rows rows));
    place = refl;
  }

  -- an image stands upright: behind its heading, the number of column x and row y comes after the rows above it and the columns before it
  pub upright : (rows x y : ℕ) → x < line → y < rows
      → Holds (image most line rows memory) (length (image_heading most line rows) + ((rows - suc y) * (pixel_size most * line) + pixel_size most * x)) (pixel most (get_or memory (y * line + x) 0))
  upright rows x y h k = holds_in (rows_held rows) (holds_in (row_held rows y k) (number_held y x h))
