use Rattle.std.proofs.Common.{◌≡◌, ℤ, List, [], ◌∷◌, ◌++◌, ap, sym, ◌∙◌, subst}
use Rattle.lrat_text.specs.Standing.{clause_at}
use Rattle.std.proofs.Common.{Some}
use Rattle.sat_incremental.specs.declared.entry.Entry.{Entry}
use Rattle.sat_incremental.specs.declared.entry.Entry.TheVariants.{Lemma}
use Rattle.sat_incremental.specs.Entries.{live, IsDerivation}
use Rattle.sat_incremental.specs.Searching.{IsRefuted}
use Rattle.sat_incremental.proofs.Derivations.{derivation-lemma, newest-live, grows-one}
use Rattle.sat_incremental.proofs.give.refute.Goals as goal

entries_are : (c : goal.After-search-1) → c.push.new.self ≡ c.args.search.now.entries ++ Lemma [] c.in_ok-hints.hints ∷ []
entries_are c = c.in_ok-push.ensures.ok ∙ ap (λ ls. c.args.search.now.entries ++ Lemma ls c.in_ok-hints.hints ∷ []) c.new.ensures

pub returns-clause-refuted : goal.returns-clause-refuted
returns-clause-refuted c =
    let search = c.args.search.now in
    let s = c.requires.search.1 in
    let hints = c.in_ok-hints.hints in
    let follows = c.in_ok-hints.ensures.follows (live search.entries) s.sound.has_id c.requires.has_id in
    let D : List Entry → Type 0 = λ entries. IsDerivation entries in
    let L : List Entry → Type 0 = λ entries. clause_at (live entries) c.in_ok-empty.empty ≡ Some [] in
    record {
      few_vars = s.few_vars;
      derivation = subst D (sym (entries_are c)) (derivation-lemma search.entries [] hints s.derivation follows);
      empty = subst L (sym (entries_are c)) (newest-live search.entries (Lemma [] hints) c.in_ok-empty.empty c.in_ok-empty.ensures.id);
    }

pub returns-clause-ease : goal.returns-clause-ease
returns-clause-ease c = returns-clause-refuted c

pub returns-clause-grows : goal.returns-clause-grows
returns-clause-grows c = grows-one c.args.search.now.entries c.push.new.self [] c.in_ok-hints.hints (entries_are c)
