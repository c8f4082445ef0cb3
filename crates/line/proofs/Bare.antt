-- A line's pixel by a pen that stores whole numbers, and depths where they are tested: the depth alone decides. Assumes nothing.
use Rattle.std.proofs.Common.{◌≡◌, ℕ, ◌+◌, ◌/◌, ◌%◌, ◌^◌, ◌<◌, ◌≤◌, min, Bool, true, false, cond, not, ◌&&◌, ◌||◌, eqb, ltb, leb, List, get_or, set, sym, refl, ◌∙◌, ap₂, arith, ltb-false, ltb-true, eqb-true, leb-false, leb-true}
use mir.Val.{bool_byte}
use lib.Seq.{set-get_or}
use lib.Bits.{bit_and, and_zero_r, and_mask}
use Rattle.picture.specs.declared.Pen.{Pen}
use Rattle.picture.specs.declared.Kind.{Kind}
use Rattle.picture.specs.Picture.{is_deep, is_edge, compared_of, wins, passes, new_i, new_z, picture, step_at}
use Rattle.ground.proofs.Truth.{both}
use Rattle.picture.proofs.Offers.{compared_nearer, compared_equal, compared_farther, passes_free, store_i, keep_z}
use Rattle.picture.proofs.Rows.{in_all_planes}
use Rattle.line.specs.declared.Mode.{Mode}
use Rattle.line.specs.declared.Mode.TheVariants.{Zero, One, Two}
use Rattle.line.specs.Segment.{kind_of}
use Rattle.line.specs.Field.{is_bare}

-- lines with depths are edges
pub deep_edge : (m : Mode) → is_deep (kind_of m) ≡ true → is_edge (kind_of m) ≡ true
deep_edge Zero e = e
deep_edge One e = e
deep_edge Two e = refl

-- an edge wins where it is no farther
edge_wins : (kind : Kind) (z old : ℕ) → is_edge kind ≡ true → z ≤ old → wins kind (compared_of z old) ≡ true
edge_wins kind z old e h = go (ltb z old) refl
  where
    go : (t : Bool) → ltb z old ≡ t → wins kind (compared_of z old) ≡ true
    go true t = rw (compared_nearer z old (ltb-true z old t))
    go false t =
        let u = ltb-false z old t in
        let s : z ≡ old = omega arith in
        rw (compared_equal z old s) e

edge_loses : (kind : Kind) (z old : ℕ) → old < z → wins kind (compared_of z old) ≡ false
edge_loses kind z old h = rw (compared_farther z old (omega arith) (λ e. absurd (omega arith)))

-- what is reckoned in the place of a choice: d is the difference of the depths modulo 2 ^ 64, whose upper bits are all 0 where z is no farther and all 1
-- where it is; s is what i lacks of the number that stood, modulo 2 ^ 16
pub picked_near : (z old i stood d s : ℕ) → z ≤ 65535 → old ≤ 65535 → i ≤ 65535 → stood ≤ 65535 → d < 2 ^ 64 → s < 2 ^ 16 → (d + z) % 2 ^ 64 ≡ old
    → (s + i) % 2 ^ 16 ≡ stood → (i + bit_and s (d / 2 ^ 48)) % 2 ^ 16 ≡ cond (leb z old) i stood
picked_near z old i stood d s hz ho hi hs hd hn e f = go (leb z old) refl
  where
    go : (t : Bool) → leb z old ≡ t → (i + bit_and s (d / 2 ^ 48)) % 2 ^ 16 ≡ cond t i stood
    go true t =
        let l = leb-true z old t in
        let none : d / 2 ^ 48 ≡ 0 = omega (arith, l, e, ho, hd) in
        rw (none, and_zero_r s) (omega (arith, hi))
    go false t =
        let l = leb-false z old t in
        let all : d / 2 ^ 48 ≡ 65535 = omega (arith, l, e, hz, hd) in
        rw (all, and_mask s 16) (omega (arith, f, hn))

-- the smaller depth, as a choice
pub min_chosen : (z old : ℕ) → min z old ≡ cond (leb z old) z old
min_chosen z old = go (leb z old) refl
  where
    go : (t : Bool) → leb z old ≡ t → min z old ≡ cond t z old
    go true e = let l = leb-true z old e in omega arith
    go false e = let l = leb-false z old e in omega arith

-- a truth value as a number, as a choice
pub byte_chosen : (t : Bool) → bool_byte t ≡ cond t 1 0
byte_chosen true = refl
byte_chosen false = refl

module _ (pen : Pen) (kind : Kind) (bare : is_bare pen kind ≡ true) where
  -- numbers are stored whole
  numbers : (pen.ienable ≡ true) × (pen.planes ≡ 65535)
  numbers =
      let u = both (not (is_deep kind) || (pen.depth && pen.zenable)) (pen.ienable && eqb pen.planes 65535) bare in
      let v = both pen.ienable (eqb pen.planes 65535) u.1 in
      (v.0, eqb-true _ _ v.1)

  -- and depths where they are tested
  depths : is_deep kind ≡ true → (pen.depth ≡ true) × (pen.zenable ≡ true)
  depths e =
      let u = both (not (is_deep kind) || (pen.depth && pen.zenable)) (pen.ienable && eqb pen.planes 65535) bare in
      both pen.depth pen.zenable (rw e at u.0)

  module _ (at i z : ℕ) (im zm : List ℕ) (n : ℕ) (h : i ≤ 65535) where
    bare_near : is_deep kind ≡ true → is_edge kind ≡ true → z ≤ get_or zm at 0
        → picture (set im at i) (set zm at z) (n + 1) ≡ step_at pen kind at i z (picture im zm n)
    unfolding step_at passes new_i new_z
    bare_near d e l =
        rw (d, (depths d).0, (depths d).1, numbers.0, numbers.1, edge_wins kind z (get_or zm at 0) e l, in_all_planes (get_or im at 0) i h)

    bare_far : is_deep kind ≡ true → get_or zm at 0 < z → picture im zm n ≡ step_at pen kind at i z (picture im zm n)
    unfolding step_at passes
    bare_far d l = rw (d, (depths d).0, edge_loses kind z (get_or zm at 0) l)

    -- a choice of what is stored, in place of a branch: where it is farther, what stands there
    chosen_at : is_deep kind ≡ true → is_edge kind ≡ true → (t : Bool) → leb z (get_or zm at 0) ≡ t
        → picture (set im at (cond t i (get_or im at 0))) (set zm at (cond t z (get_or zm at 0))) (cond t (n + 1) n) ≡ step_at pen kind at i z (picture im zm n)
    chosen_at d e true t = bare_near d e (leb-true z (get_or zm at 0) t)
    chosen_at d e false t = ap₂ (λ (k l : List ℕ). picture k l n) (set-get_or im at 0) (set-get_or zm at 0) ∙ bare_far d (leb-false z (get_or zm at 0) t)

    -- storing what is chosen so, and counting so, is what an offer of an edge with depth does
    pub bare_chosen : {vi vz m : ℕ} {t : Bool} → is_deep kind ≡ true → is_edge kind ≡ true → t ≡ leb z (get_or zm at 0) → vi ≡ cond t i (get_or im at 0)
        → vz ≡ cond t z (get_or zm at 0) → m ≡ cond t (n + 1) n → picture (set im at vi) (set zm at vz) m ≡ step_at pen kind at i z (picture im zm n)
    bare_chosen {vi} {vz} {m} {t} d e p ei ez em = rw (ei, ez, em) (chosen_at d e t (sym p))

    -- storing the number in I alone, and counting one, is what an offer without depth does
    pub bare_ink : is_deep kind ≡ false → picture (set im at i) zm (n + 1) ≡ step_at pen kind at i z (picture im zm n)
    unfolding step_at
    bare_ink d =
        rw (passes_free pen kind z (get_or zm at 0) (none pen.depth))
        (ap₂ (λ (a b : List ℕ). picture a b (n + 1)) (store_i pen im at i i numbers.0 (rw numbers.1 (sym (in_all_planes (get_or im at 0) i h)))) (keep_z pen zm at kind z (none pen.zenable)))
      where
        none : (t : Bool) → t && is_deep kind ≡ false
        none true = d
        none false = refl
