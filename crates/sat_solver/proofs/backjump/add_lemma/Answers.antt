use Rattle.std.proofs.Common.{◌≡◌, ℕ, ◌≤◌, ◌<◌, ◌^◌, ℤ, Option, List, [], ◌∷◌, ◌++◌, length, ap, sym, ◌∙◌, subst, arith}
use Rattle.std.specs.List.{All}
use Rattle.std.proofs.lemmas.List.{length_push}
use Rattle.cnf_base.specs.Dimacs.{IsLiteral}
use Rattle.lrat_text.specs.declared.proof.LratStep.{LratStep}
use Rattle.lrat_text.specs.declared.proof.LratStep.TheVariants.{Add}
use Rattle.sat_trail.specs.Trail.{TrailState, IsTrail}
use Rattle.sat_solver.specs.Decision.{IsPassed}
use Rattle.sat_solver.specs.Attachment.{CanAttach, Attaches}
use Rattle.sat_solver.specs.Ledger.{earlier, live, IsLedger}
use Rattle.sat_solver.specs.Sound.{IsSound}
use Rattle.sat_solver.proofs.Attachment.{ready_held}
use Rattle.sat_solver.proofs.Backjumps.{sound_kept, ledger_kept, roots_kept}
use Rattle.sat_solver.proofs.LearnedClauses.{back_at, ready_back, learned_open, learned_root, learned_fits}
use Rattle.sat_solver.proofs.SearchPlace.{first_passed}
use Rattle.sat_solver.proofs.backjump.add_lemma.Goals as goal

pub attach-requires-clause-fits : goal.attach-requires-clause-fits
attach-requires-clause-fits c =
    let search = c.args.search.now in
    let b = search.premises.book in
    let level = c.level_after-level.result in
    let le : level ≤ c.args.learned.backjump_level = omega (arith, c.level_after-level.ensures, c.backjump_level.ensures) in
    let s = c.requires.search.sound in
    let P : List ℤ → Type 0 = λ ls. CanAttach ls b c.back_to.new.self in
    let Q : TrailState → Type 0 = λ t. CanAttach c.args.learned.lits b t in
    subst P (sym (c.in_ok-lemma.ensures ∙ c.lits.ensures)) (subst Q (sym c.back_to.ensures) (learned_fits b search.premises.trail c.args.learned level (s.book_vars ∙ sym s.trail_vars) c.is_well_formed.ensures c.requires.learned_from.is_learned le))

pub bump-requires-clause-met : goal.bump-requires-clause-met
bump-requires-clause-met c =
    let h = c.requires.search in
    let P : ℕ → Type 0 = λ n. All (IsLiteral n) c.args.learned.met in
    subst P (h.sound.trail_vars ∙ sym h.queue_vars) c.requires.learned_from.is_learned.met_in_range

pub returns-clause-search : goal.returns-clause-search
returns-clause-search c =
    let search = c.args.search.now in
    let formula = c.args.formula.now in
    let learned = c.args.learned in
    let b = search.premises.book in
    let t = search.premises.trail in
    let id = c.next_id-id.result in
    let level = c.level_after-level.result in
    let le : level ≤ learned.backjump_level = omega (arith, c.level_after-level.ensures, c.backjump_level.ensures) in
    let h = c.requires.search in
    let lemma_is = c.in_ok-lemma.ensures ∙ c.lits.ensures in
    let P : List ℤ → Type 0 = λ ls. Attaches ls id b c.back_to.new.self search.premises.proof_ids.items c.attach.new.premises.book c.attach.new.premises.trail c.attach.new.premises.proof_ids.items in
    let Q : TrailState → Type 0 = λ x. Attaches learned.lits id b x search.premises.proof_ids.items c.attach.new.premises.book c.attach.new.premises.trail c.attach.new.premises.proof_ids.items in
    let attached = subst Q c.back_to.ensures (subst P lemma_is c.in_ok-attach.ensures) in
    let T : TrailState → Type 0 = λ x. IsTrail x in
    let backjump_level = subst T c.back_to.ensures c.is_well_formed-2.ensures in
    let made : List ℤ → List ℤ → List LratStep = λ ls hints. search.steps ++ Add id ls hints ∷ [] in
    let steps_are : c.push.new.self ≡ made learned.lits learned.hints = c.in_ok-push.ensures.ok ∙ ap (λ ls. made ls c.into_hints.result) lemma_is ∙ ap (made learned.lits) c.into_hints.ensures in
    let few : id < 2 ^ 62 = omega (arith, c.next_id-id.ensures, h.few_clauses, h.few_steps) in
    let sound = sound_kept formula search.steps search.premises.proof_ids.items c.attach.new.premises.proof_ids.items b c.attach.new.premises.book t c.attach.new.premises.trail learned level id learned.hints h.sound c.is_well_formed.ensures c.requires.learned_from.is_learned le backjump_level c.next_id-id.ensures few attached in
    let ledger = ledger_kept formula search.steps t learned id h.ledger c.requires.learned_from h.sound.trail_vars c.next_id-id.ensures few in
    let L : List LratStep → Type 0 = λ steps. IsLedger formula steps in
    let S : List LratStep → Type 0 = λ steps. IsSound formula.vars (live formula steps) (earlier formula steps) c.attach.new.premises.proof_ids.items c.attach.new.premises.book c.attach.new.premises.trail in
    record {
      few_clauses = h.few_clauses;
      few_steps = (let size = ap length steps_are in omega (arith, length_push search.steps (Add id learned.lits learned.hints), c.requires.room));
      ledger = subst L (sym steps_are) ledger;
      sound = subst S (sym steps_are) sound;
      queue_vars = c.bump.ensures.queue ∙ h.queue_vars;
      ranks_vars = c.bump.ensures.ranks ∙ h.ranks_vars;
      phases_vars = c.note.ensures ∙ h.phases_vars;
      analyzer_vars = h.analyzer_vars;
      considered_vars = h.considered_vars;
      few_conflicts = (let size = ap length steps_are in omega (arith, length_push search.steps (Add id learned.lits learned.hints), h.few_conflicts));
    }

pub returns-clause-ready : goal.returns-clause-ready
returns-clause-ready c =
    let search = c.args.search.now in
    let learned = c.args.learned in
    let b = search.premises.book in
    let t = search.premises.trail in
    let id = c.next_id-id.result in
    let level = c.level_after-level.result in
    let le : level ≤ learned.backjump_level = omega (arith, c.level_after-level.ensures, c.backjump_level.ensures) in
    let h = c.requires.learned_from.is_learned in
    let below = h.backjump_below in
    let lemma_is = c.in_ok-lemma.ensures ∙ c.lits.ensures in
    let P : List ℤ → Type 0 = λ ls. Attaches ls id b c.back_to.new.self search.premises.proof_ids.items c.attach.new.premises.book c.attach.new.premises.trail c.attach.new.premises.proof_ids.items in
    let Q : TrailState → Type 0 = λ x. Attaches learned.lits id b x search.premises.proof_ids.items c.attach.new.premises.book c.attach.new.premises.trail c.attach.new.premises.proof_ids.items in
    let attached = subst Q c.back_to.ensures (subst P lemma_is c.in_ok-attach.ensures) in
    let T : TrailState → Type 0 = λ x. IsTrail x in
    let backjump_level = subst T c.back_to.ensures c.is_well_formed-2.ensures in
    ready_held b c.attach.new.premises.book (back_at level t) c.attach.new.premises.trail search.premises.proof_ids.items c.attach.new.premises.proof_ids.items id learned.lits
    (ready_back b t level c.requires.ready c.is_well_formed.ensures (omega arith)) backjump_level (learned_root t learned level h le) (learned_open t learned level h le) attached

pub returns-clause-passed : goal.returns-clause-passed
returns-clause-passed c =
    let P : Option ℕ → Type 0 = λ from. IsPassed c.bump.new.queue c.attach.new.premises.trail.assignments from in
    subst P (sym c.first-search.ensures) (first_passed c.bump.new.queue c.attach.new.premises.trail.assignments)

pub returns-clause-roots : goal.returns-clause-roots
returns-clause-roots c =
    let search = c.args.search.now in
    let proof_ids = search.premises.proof_ids.items in
    let id = c.next_id-id.result in
    let level = c.level_after-level.result in
    let P : TrailState → Type 0 = λ x. Attaches c.in_ok-lemma.lemma id search.premises.book x proof_ids c.attach.new.premises.book c.attach.new.premises.trail c.attach.new.premises.proof_ids.items in
    roots_kept c.in_ok-lemma.lemma level id search.premises.book c.attach.new.premises.book search.premises.trail c.attach.new.premises.trail proof_ids c.attach.new.premises.proof_ids.items (subst P c.back_to.ensures c.in_ok-attach.ensures)
