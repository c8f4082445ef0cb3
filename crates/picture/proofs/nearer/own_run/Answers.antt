-- `nearer::own_run` meets its contract. Assumes nothing.
use Rattle.std.proofs.Common.{ℕ, sym, refl, ap, ◌∙◌, subst}
use Rattle.picture.specs.Place.{place_of}
use Rattle.picture.specs.Loops.{Shares}
use Rattle.picture.proofs.Strides.{few_some, shares_of, until_low}
use Rattle.picture.proofs.Runs.{own_beside, none_beside}
use Rattle.picture.proofs.nearer.own_run.Goals as goal

pub share-requires : goal.share-requires
share-requires c =
    (subst (λ (w : ℕ). Shares c.args.frame w) (sym c.ways_of.ensures.0) (shares_of c.args.frame c.requires.2 c.requires.3), c.requires.0, c.requires.1)

pub returns-in-Some : goal.returns-in-Some
returns-in-Some c =
    let a = c.args in
    let w = c.ways_of in
    let own = c.in-Some.ensures in
    let shares = subst (λ (n : ℕ). Shares a.frame n) (sym w.ensures.0) (shares_of a.frame c.requires.2 c.requires.3) in
    own_beside a.frame a.s.lo a.s.hi a.s.y a.s.i a.s.z c.requires.0 c.requires.1 w.result shares refl (until_low a.frame.layout a.s.lo w.result (few_some w.result shares.few)) own.past own.count
    (c.place.ensures.0 ∙ ap (λ (x : ℕ). place_of a.frame x a.s.y) own.x) c.place.ensures.1 own.i own.z

pub returns : goal.returns
returns c =
    let a = c.args in
    let w = c.ways_of in
    let shares = subst (λ (n : ℕ). Shares a.frame n) (sym w.ensures.0) (shares_of a.frame c.requires.2 c.requires.3) in
    none_beside a.frame a.s.lo a.s.hi a.s.y a.s.i a.s.z c.requires.0 c.requires.1 w.result shares refl (until_low a.frame.layout a.s.lo w.result (few_some w.result shares.few)) c.in_default.ensures
