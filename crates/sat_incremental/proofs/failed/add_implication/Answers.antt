use Rattle.std.proofs.Common.{◌≡◌, ℤ, Some, List, [], ◌∷◌, ◌++◌, length, refl, ap, sym, ◌∙◌, subst, arith}
use Rattle.std.proofs.lemmas.List.{length_push}
use Rattle.lrat_text.specs.Standing.{clause_at}
use Rattle.sat_learn.specs.Implying.{ImpliesByDecisions}
use Rattle.sat_solver.specs.Sound.{IsSound}
use Rattle.sat_incremental.specs.declared.entry.Entry.{Entry}
use Rattle.sat_incremental.specs.declared.entry.Entry.TheVariants.{Lemma}
use Rattle.sat_incremental.specs.Entries.{given, live, IsDerivation}
use Rattle.sat_incremental.proofs.Derivations.{derivation-lemma, newest-live, grows-one}
use Rattle.sat_incremental.proofs.Kept.{sound_lemma}
use Rattle.sat_incremental.proofs.failed.add_implication.Goals as goal

-- the lemma
abbrev ls : goal.After-drop-found-2 → List ℤ
ls c = c.in_ok-found.found.lits.items

entries_are : (c : goal.After-drop-found-2) → c.push.new.self ≡ c.args.search.now.entries ++ Lemma (ls c) c.in_ok-found.found.hints ∷ []
entries_are c = c.in_ok-push.ensures.ok ∙ ap (λ xs. c.args.search.now.entries ++ Lemma xs c.in_ok-found.found.hints ∷ []) (c.in_ok-lits.ensures ∙ c.deref.ensures.value)

pub returns-clause-search : goal.returns-clause-search
returns-clause-search c =
    let search = c.args.search.now in
    let h = c.requires.search in
    let hints = c.in_ok-found.found.hints in
    let size = ap length (entries_are c) in
    let follows = c.in_ok-found.ensures.follows (live search.entries) h.sound.has_id in
    let D : List Entry → Type 0 = λ entries. IsDerivation entries in
    let S : List Entry → Type 0 = λ entries. IsSound search.vars (live entries) (given entries) search.premises.proof_ids.items search.premises.book search.premises.trail in
    record {
      few = omega (arith, size, length_push search.entries (Lemma (ls c) hints), c.in_ok-id.ensures.few);
      few_vars = h.few_vars;
      derivation = subst D (sym (entries_are c)) (derivation-lemma search.entries (ls c) hints h.derivation follows);
      sound = subst S (sym (entries_are c)) (sound_lemma search.vars search.entries (ls c) hints search.premises.proof_ids.items search.premises.book search.premises.trail h.sound);
      ready = h.ready;
      passed = h.passed;
      queue_vars = h.queue_vars;
      ranks_vars = h.ranks_vars;
      phases_vars = h.phases_vars;
      analyzer_vars = c.imply.ensures.vars ∙ h.analyzer_vars;
      gathered = h.gathered;
      gathered_vars = h.gathered_vars;
    }

pub returns-clause-extends : goal.returns-clause-extends
returns-clause-extends c = record { vars = refl; number = 1; grows = grows-one c.args.search.now.entries c.push.new.self (ls c) c.in_ok-found.found.hints (entries_are c) }

pub returns-clause-lemma : goal.returns-clause-lemma
returns-clause-lemma c =
    let search = c.args.search.now in
    let L : List Entry → Type 0 = λ entries. clause_at (live entries) c.in_ok-id.id ≡ Some (ls c) in
    (ls c, subst L (sym (entries_are c)) (newest-live search.entries (Lemma (ls c) c.in_ok-found.found.hints) c.in_ok-id.id c.in_ok-id.ensures.id), c.in_ok-found.ensures.implication)
