-- Numbers of k bits back to back, and the row of bits cut into numbers again: said once, over k. Assumes nothing.
use mathlib.Core.Path.{◌≡◌, refl, sym, ap, ap₂, ◌∙◌}
use mathlib.Core.List.{List, [], ◌∷◌, ◌++◌, append_assoc}
use Prim.Native.Nat.{ℕ, zero, suc, ◌+◌, ◌-◌, ◌*◌, ◌≤◌, ◌<◌}
use native.Mathlib.Nat.{zero-mul, suc-mul, add_comm, zero-sub, sub-zero, suc-sub-suc, mod-eq_of_lt, not-suc-le-zero, le_of_suc-le-suc}
use native.Mathlib.Omega.{arith}
use lib.ListN.{length, get_or, take, drop, length-append, length-drop}
use lib.Seq.{drop-nil, drop-append-add, take_at, drop_at, drop-drop, take-add, length-take-le}
use Rattle.stream.specs.Format.{bits, number, joined, cut}
use Rattle.stream.proofs.Bits.{Fits, none, more, fits_append, fits_drop, fits_take, length_bits, bits_fit_lem, number_bits, bits_number}

-- ---- numbers back to back

-- numbers of k bits back to back are k bits for each number
pub length_joined : (k : ℕ) (ns : List ℕ) → length (joined k ns) ≡ length ns * k
unfolding joined
length_joined k [] = sym (zero-mul k)
length_joined k (n ∷ ns) = length-append (bits k n) (joined k ns) ∙ ap₂ (λ (i j : ℕ). i + j) (length_bits k n) (length_joined k ns) ∙ add_comm k (length ns * k) ∙ sym (suc-mul (length ns) k)

-- joined numbers are a row of nothing but bits
pub joined_fit : (k : ℕ) (ns : List ℕ) → Fits 1 (joined k ns)
unfolding joined
joined_fit k [] = none
joined_fit k (n ∷ ns) = fits_append (bits_fit_lem k n) (joined_fit k ns)

-- past the bits of j numbers stand the bits of those that are left
pub drop_joined : (k j : ℕ) (ns : List ℕ) → drop (j * k) (joined k ns) ≡ joined k (drop j ns)
unfolding joined
drop_joined k zero ns = ap (λ (i : ℕ). drop i (joined k ns)) (zero-mul k)
drop_joined k (suc j) [] = drop-nil (suc j * k)
drop_joined k (suc j) (n ∷ ns) =
    ap (λ (i : ℕ). drop i (bits k n ++ joined k ns)) (suc-mul j k ∙ add_comm (j * k) k ∙ ap (λ (i : ℕ). i + j * k) (sym (length_bits k n)))
    ∙ drop-append-add (bits k n) (joined k ns) (j * k)
    ∙ drop_joined k j ns

-- ---- a row of bits, cut

-- as many numbers are cut as are asked for
pub length_cut : (k n : ℕ) (bs : List ℕ) → length (cut k n bs) ≡ n
unfolding cut
length_cut k zero bs = refl
length_cut k (suc n) bs = ap suc (length_cut k n (drop k bs))

-- a number is cut off the front
pub cut_front : (k n : ℕ) (row rest : List ℕ) → length row ≡ k → cut k (suc n) (row ++ rest) ≡ number row ∷ cut k n rest
unfolding cut
cut_front k n row rest e = ap₂ (λ (l r : List ℕ). number l ∷ cut k n r) (take_at row rest k e) (drop_at row rest k e)

-- past i numbers stand those that are cut from the bits past theirs
pub drop_cut : (k i n : ℕ) (bs : List ℕ) → drop i (cut k n bs) ≡ cut k (n - i) (drop (i * k) bs)
unfolding cut
drop_cut k zero n bs = ap₂ (λ (a b : ℕ). cut k a (drop b bs)) (sym (sub-zero n)) (sym (zero-mul k))
drop_cut k (suc i) zero bs = ap (λ (a : ℕ). cut k a (drop (suc i * k) bs)) (sym (zero-sub (suc i)))
drop_cut k (suc i) (suc n) bs = drop_cut k i n (drop k bs) ∙ ap₂ (λ (a : ℕ) (b : List ℕ). cut k a b) (sym (suc-sub-suc n i)) (drop-drop (i * k) k bs ∙ ap (λ (a : ℕ). drop a bs) (add_comm k (i * k) ∙ sym (suc-mul i k)))

-- the number at a place is in its bits
pub get_d_cut_lem : (k i n : ℕ) (bs : List ℕ) → i < n → get_or (cut k n bs) i 0 ≡ number (take k (drop (i * k) bs))
unfolding cut
get_d_cut_lem k zero zero bs h = absurd (not-suc-le-zero h)
get_d_cut_lem k zero (suc n) bs h = ap (λ (j : ℕ). number (take k (drop j bs))) (sym (zero-mul k))
get_d_cut_lem k (suc i) zero bs h = absurd (not-suc-le-zero h)
get_d_cut_lem k (suc i) (suc n) bs h =
    get_d_cut_lem k i n (drop k bs) (le_of_suc-le-suc h)
    ∙ ap (λ (r : List ℕ). number (take k r)) (drop-drop (i * k) k bs ∙ ap (λ (a : ℕ). drop a bs) (add_comm k (i * k) ∙ sym (suc-mul i k)))

-- ---- the two directions

-- numbers that fit come back, whatever follows them
pub cut_joined : {k : ℕ} {ns : List ℕ} → Fits k ns → (rest : List ℕ) → cut k (length ns) (joined k ns ++ rest) ≡ ns
unfolding cut joined
cut_joined none rest = refl
cut_joined {k} (more {n = n} {ns = ns} h f) rest =
    ap (cut k (suc (length ns))) (append_assoc (bits k n) (joined k ns) rest)
    ∙ cut_front k (length ns) (bits k n) (joined k ns ++ rest) (length_bits k n)
    ∙ ap₂ (λ (m : ℕ) (ms : List ℕ). m ∷ ms) (number_bits k n ∙ mod-eq_of_lt h) (cut_joined f rest)

-- bits come back, as many as were cut
pub joined_cut : (k n : ℕ) {bs : List ℕ} → Fits 1 bs → n * k ≤ length bs → joined k (cut k n bs) ≡ take (n * k) bs
unfolding cut joined
joined_cut k zero {bs} f h = ap (λ (i : ℕ). take i bs) (sym (zero-mul k))
joined_cut k (suc n) {bs} f h =
    let e : suc n * k ≡ k + n * k = suc-mul n k ∙ add_comm (n * k) k in
    let l : length (take k bs) ≡ k = length-take-le k bs (omega arith) in
    ap₂ (λ (l r : List ℕ). l ++ r)
    (ap (λ (i : ℕ). bits i (number (take k bs))) (sym l) ∙ bits_number (fits_take k f))
    (joined_cut k n (fits_drop k f) (omega (arith, length-drop k bs)))
    ∙ sym (ap (λ (i : ℕ). take i bs) e ∙ take-add k (n * k) bs)
