use Rattle.std.proofs.Common.{◌≡◌, ℕ, ◌+◌, ◌≤◌, ◌<◌, ◌^◌, ℤ, Option, List, [], ◌∷◌, ◌++◌, length, refl, ap, sym, ◌∙◌, subst, arith}
use Rattle.std.specs.List.{All}
use Rattle.std.proofs.lemmas.List.{length_push}
use Rattle.cnf_base.specs.Dimacs.{IsLiteral}
use Rattle.sat_trail.specs.Trail.{TrailState, IsTrail}
use Rattle.sat_solver.specs.Decision.{IsPassed}
use Rattle.sat_solver.specs.Attachment.{CanAttach, Attaches}
use Rattle.sat_solver.specs.Sound.{IsSound}
use Rattle.sat_solver.proofs.Attachment.{ready_held}
use Rattle.sat_solver.proofs.LearnedClauses.{back_at, ready_back, learned_open, learned_root, learned_fits}
use Rattle.sat_solver.proofs.SearchPlace.{first_passed}
use Rattle.sat_incremental.specs.declared.entry.Entry.{Entry}
use Rattle.sat_incremental.specs.declared.entry.Entry.TheVariants.{Lemma}
use Rattle.sat_incremental.specs.Entries.{given, live, IsDerivation}
use Rattle.sat_incremental.proofs.Assumed.{assumed_back, assumed_attached}
use Rattle.sat_incremental.proofs.Derivations.{derivation-lemma, grows-one}
use Rattle.sat_incremental.proofs.Kept.{sound_learned}
use Rattle.sat_incremental.proofs.learn.keep.Goals as goal

pub attach-requires-clause-fits : goal.attach-requires-clause-fits
attach-requires-clause-fits c =
    let search = c.args.search.now in
    let b = search.premises.book in
    let level = c.level_after-level.result in
    let le : level ≤ c.args.learned.backjump_level = omega (arith, c.level_after-level.ensures, c.backjump_level.ensures) in
    let s = c.requires.query.search.sound in
    let P : List ℤ → Type 0 = λ ls. CanAttach ls b c.back_to.new.self in
    let Q : TrailState → Type 0 = λ t. CanAttach c.args.learned.lits b t in
    subst P (sym (c.in_ok-lemma.ensures ∙ c.lits.ensures)) (subst Q (sym c.back_to.ensures) (learned_fits b search.premises.trail c.args.learned level (s.book_vars ∙ sym s.trail_vars) c.is_well_formed.ensures c.requires.learned le))

pub bump-requires-clause-met : goal.bump-requires-clause-met
bump-requires-clause-met c =
    let h = c.requires.query.search in
    let P : ℕ → Type 0 = λ n. All (IsLiteral n) c.args.learned.met in
    subst P (h.sound.trail_vars ∙ sym h.queue_vars) c.requires.learned.met_in_range

pub bump-requires-clause-ranks : goal.bump-requires-clause-ranks
bump-requires-clause-ranks c = let h = c.requires.query.search in h.ranks_vars ∙ sym h.queue_vars

-- what is attached, at the level to which the search goes back
attached : (c : goal.After-search-2-1) → Attaches c.args.learned.lits c.in_ok-id.id c.args.search.now.premises.book (back_at c.level_after-level.result c.args.search.now.premises.trail) c.args.search.now.premises.proof_ids.items c.attach.new.premises.book c.attach.new.premises.trail c.attach.new.premises.proof_ids.items
attached c =
    let search = c.args.search.now in
    let id = c.in_ok-id.id in
    let b = search.premises.book in
    let P : List ℤ → Type 0 = λ ls. Attaches ls id b c.back_to.new.self search.premises.proof_ids.items c.attach.new.premises.book c.attach.new.premises.trail c.attach.new.premises.proof_ids.items in
    let Q : TrailState → Type 0 = λ x. Attaches c.args.learned.lits id b x search.premises.proof_ids.items c.attach.new.premises.book c.attach.new.premises.trail c.attach.new.premises.proof_ids.items in
    subst Q c.back_to.ensures (subst P (c.in_ok-lemma.ensures ∙ c.lits.ensures) c.in_ok-attach.ensures)

entries_are : (c : goal.After-search-2-1) → c.push.new.self ≡ c.args.search.now.entries ++ Lemma c.args.learned.lits c.args.learned.hints ∷ []
entries_are c =
    let made : List ℤ → List ℤ → List Entry = λ ls hints. c.args.search.now.entries ++ Lemma ls hints ∷ [] in
    c.in_ok-push.ensures.ok ∙ ap (λ ls. made ls c.into_hints.result) (c.in_ok-lemma.ensures ∙ c.lits.ensures) ∙ ap (made c.args.learned.lits) c.into_hints.ensures

pub returns-clause-query : goal.returns-clause-query
returns-clause-query c =
    let search = c.args.search.now in
    let learned = c.args.learned in
    let b = search.premises.book in
    let t = search.premises.trail in
    let id = c.in_ok-id.id in
    let proof_ids = search.premises.proof_ids.items in
    let proof_ids' = c.attach.new.premises.proof_ids.items in
    let b' = c.attach.new.premises.book in
    let t' = c.attach.new.premises.trail in
    let level = c.level_after-level.result in
    let le : level ≤ learned.backjump_level = omega (arith, c.level_after-level.ensures, c.backjump_level.ensures) in
    let q = c.requires.query in
    let h = q.search in
    let is_learned = c.requires.learned in
    let below = is_learned.backjump_below in
    let trail = c.is_well_formed.ensures in
    let T : TrailState → Type 0 = λ x. IsTrail x in
    let back = subst T c.back_to.ensures c.is_well_formed-2.ensures in
    let few : id < 2 ^ 62 = omega (arith, c.in_ok-id.ensures.id, c.in_ok-id.ensures.few) in
    let size = ap length (entries_are c) in
    let D : List Entry → Type 0 = λ entries. IsDerivation entries in
    let S : List Entry → Type 0 = λ entries. IsSound search.vars (live entries) (given entries) proof_ids' b' t' in
    let P : Option ℕ → Type 0 = λ from. IsPassed c.bump.new.queue t'.assignments from in
    record {
      search = record {
        few = omega (arith, size, length_push search.entries (Lemma learned.lits learned.hints), c.in_ok-id.ensures.few);
        few_vars = h.few_vars;
        derivation = subst D (sym (entries_are c)) (derivation-lemma search.entries learned.lits learned.hints h.derivation c.requires.follows);
        sound = subst S (sym (entries_are c)) (sound_learned search.vars search.entries proof_ids proof_ids' b b' t t' learned level id learned.hints h.sound trail is_learned le back c.in_ok-id.ensures.id few (attached c));
        ready = ready_held b b' (back_at level t) t' proof_ids proof_ids' id learned.lits (ready_back b t level h.ready trail (omega arith)) back (learned_root t learned level is_learned le) (learned_open t learned level is_learned le) (attached c);
        passed = subst P (sym c.first-search.ensures) (first_passed c.bump.new.queue t'.assignments);
        queue_vars = c.bump.ensures.queue ∙ h.queue_vars;
        ranks_vars = c.bump.ensures.ranks ∙ h.ranks_vars;
        phases_vars = c.note.ensures ∙ h.phases_vars;
        analyzer_vars = h.analyzer_vars;
        gathered = h.gathered;
        gathered_vars = h.gathered_vars;
      };
      assumed = assumed_attached c.args.assumptions.now learned.lits id b b' (back_at level t) t' proof_ids proof_ids' (assumed_back c.args.assumptions.now level t.assignments q.assumed) (attached c);
      within = omega (arith, c.requires.room);
    }

pub returns-clause-continues : goal.returns-clause-continues
returns-clause-continues c = record {
  vars = refl;
  refuted = refl;
  number = 1;
  grows = grows-one c.args.search.now.entries c.push.new.self c.args.learned.lits c.args.learned.hints (entries_are c);
  learned = refl;
}
