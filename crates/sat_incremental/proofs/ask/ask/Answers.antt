use Rattle.std.proofs.Common.{◌≡◌, ℕ, ◌+◌, List, sym, ◌∙◌, subst, arith}
use Rattle.cnf_base.specs.Meaning.{IsWithin}
use Rattle.sat_incremental.specs.declared.entry.Entry.{Entry}
use Rattle.sat_incremental.specs.Entries.{GrowsByLemmas}
use Rattle.sat_incremental.specs.Searching.{Extends}
use Rattle.sat_incremental.proofs.Assumed.{assumed_at_root}
use Rattle.sat_incremental.proofs.Growth.{extends_then}
use Rattle.sat_incremental.proofs.ask.ask.Goals as goal

pub take_steps-requires-clause-query : goal.take_steps-requires-clause-query
take_steps-requires-clause-query c =
    let s = c.back_to_root.new.self in
    let h = c.back_to_root.ensures.search in
    record {
      search = record {
        few = h.few;
        few_vars = h.few_vars;
        derivation = h.derivation;
        sound = h.sound;
        ready = h.ready;
        passed = h.passed;
        queue_vars = h.queue_vars;
        ranks_vars = h.ranks_vars;
        phases_vars = h.phases_vars;
        analyzer_vars = h.analyzer_vars;
        gathered = h.gathered;
        gathered_vars = h.gathered_vars;
      };
      assumed = assumed_at_root c.args.assumptions.now s.premises.trail c.is_well_formed.ensures c.back_to_root.ensures.root;
      within = omega arith;
    }

pub take_steps-requires-clause-in_range : goal.take_steps-requires-clause-in_range
take_steps-requires-clause-in_range c =
    let P : ℕ → Type 0 = λ n. IsWithin n c.args.assumptions.now in
    subst P (sym c.back_to_root.ensures.vars) c.requires.in_range

pub conclude-requires-clause-none : goal.conclude-requires-clause-none
conclude-requires-clause-none c = c.in_ok-end.ensures.continues.refuted ∙ c.back_to_root.ensures.refuted ∙ c.requires.none

pub returns-clause-extends : goal.returns-clause-extends
returns-clause-extends c =
    let continues = c.in_ok-end.ensures.continues in
    let mid = c.take_steps.new.search in
    let G : List Entry → Type 0 = λ es. GrowsByLemmas es continues.number mid.entries in
    let first : Extends c.args.search.now mid = record {
      vars = continues.vars ∙ c.back_to_root.ensures.vars;
      number = continues.number;
      grows = subst G c.back_to_root.ensures.entries continues.grows;
    } in
    extends_then c.args.search.now mid c.conclude.new.search first c.in_ok-outcome.ensures.extends

pub returns-clause-spent : goal.returns-clause-spent
returns-clause-spent c is =
    let continues = c.in_ok-end.ensures.continues in
    let mid = c.take_steps.new.search in
    let new = c.conclude.new.search in
    let told = c.in_ok-outcome.ensures.spent is in
    let number : continues.number ≡ c.args.lemmas = omega (arith, continues.learned, told.1) in
    let N : ℕ → Type 0 = λ n. GrowsByLemmas c.args.search.now.entries n new.entries in
    let E : List Entry → Type 0 = λ es. GrowsByLemmas c.args.search.now.entries continues.number es in
    let G : List Entry → Type 0 = λ es. GrowsByLemmas es continues.number mid.entries in
    subst N number (subst E (sym told.0) (subst G c.back_to_root.ensures.entries continues.grows))
