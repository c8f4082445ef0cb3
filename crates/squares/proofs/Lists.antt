-- Listed squares taken one by one, as the code asks of them and copies them. Assumes nothing.
use Rattle.std.proofs.Common.{◌≡◌, refl, ℕ, ◌+◌, ◌<◌, true, ◌&&◌, List, [], map, length, drop, get_or}
use Rattle.std.proofs.lemmas.List.{at_drop_more}
use Rattle.squares.specs.Squares.{corner_of}
use Rattle.squares.specs.Copy.{copy_square, copy_squares}
use Rattle.squares.specs.Calls.{is_square, are_squares}

module _ (width rows : ℕ) where
  -- of an empty list all are squares of the picture
  pub squares_none : are_squares width rows [] ≡ true
  unfolding are_squares
  squares_none = refl

  -- those from place k on
  pub squares_next : (list : List ℕ) (k : ℕ) → k < length list
      → are_squares width rows (map corner_of (drop k list))
      ≡ is_square width rows (corner_of (get_or list k 0)) && are_squares width rows (map corner_of (drop (k + 1) list))
  unfolding are_squares
  squares_next list k h = at_drop_more (λ (left : List ℕ). are_squares width rows (map corner_of left)) list k 0 h

-- copying those from place i on is copying the one there, and then those behind it
pub copies_next : (width : ℕ) (new view list : List ℕ) (i : ℕ) → i < length list
    → copy_squares width new view (map corner_of (drop i list))
    ≡ copy_squares width new (copy_square width new view (corner_of (get_or list i 0))) (map corner_of (drop (i + 1) list))
copies_next width new view list i h = at_drop_more (λ (left : List ℕ). copy_squares width new view (map corner_of left)) list i 0 h
