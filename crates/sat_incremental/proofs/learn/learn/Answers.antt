use Rattle.std.proofs.Common.{◌≡◌, ◌+◌, ◌<◌, neg_ℤ, map, ap, sym, ◌∙◌, subst}
use Rattle.sat_learn.specs.Learned.{IsLearned}
use Rattle.sat_learn.specs.Reasons.{Follows}
use Rattle.sat_incremental.specs.declared.search.Search.{Search}
use Rattle.sat_incremental.specs.Entries.{live}
use Rattle.sat_incremental.specs.Searching.{IsQuery, Continues}
use Rattle.sat_incremental.proofs.Growth.{less_after}
use Rattle.sat_incremental.proofs.learn.learn.Goals as goal

pub keep-requires-clause-query : goal.keep-requires-clause-query
keep-requires-clause-query c =
    let P : Search → Type 0 = λ s. IsQuery c.args.assumptions.now c.args.lemmas s in
    subst P (sym c.analyze.ensures.stays) c.requires.query

pub keep-requires-clause-room : goal.keep-requires-clause-room
keep-requires-clause-room c =
    let P : Search → Type 0 = λ s. s.learned < c.args.lemmas in
    subst P (sym c.analyze.ensures.stays) c.requires.room

pub keep-requires-clause-learned : goal.keep-requires-clause-learned
keep-requires-clause-learned c =
    let P : Search → Type 0 = λ s. IsLearned s.premises.trail c.in_ok-learned.learned in
    subst P (sym c.analyze.ensures.stays) c.in_ok-learned.ensures.learned

pub keep-requires-clause-follows : goal.keep-requires-clause-follows
keep-requires-clause-follows c =
    let P : Search → Type 0 = λ s. Follows (live s.entries) (map neg_ℤ c.in_ok-learned.learned.lits) c.in_ok-learned.learned.hints in
    subst P (sym c.analyze.ensures.stays) c.in_ok-learned.ensures.follows

pub returns-clause-continues : goal.returns-clause-continues
returns-clause-continues c =
    let P : Search → Type 0 = λ s. Continues s c.keep.new.search in
    subst P c.analyze.ensures.stays c.in_ok-keep.ensures.continues

pub returns-clause-less : goal.returns-clause-less
returns-clause-less c =
    let old = c.args.search.now in
    let new = c.keep.new.search in
    let stays = c.analyze.ensures.stays in
    let before = c.requires.query.search.sound.trail_vars in
    let after = c.in_ok-keep.ensures.query.search.sound.trail_vars in
    let one : new.learned ≡ old.learned + 1 = c.in_ok-keep.ensures.one ∙ ap (λ (s : Search). s.learned + 1) stays in
    let same : new.premises.trail.vars ≡ old.premises.trail.vars = after ∙ c.in_ok-keep.ensures.continues.vars ∙ ap (λ (s : Search). s.vars) stays ∙ sym before in
    less_after c.args.lemmas old.learned new.learned old.premises.trail.vars new.premises.trail.vars _ _ one c.requires.room same
