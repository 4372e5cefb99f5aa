use Rattle.std.proofs.Common.{◌≡◌, ℕ, ◌<◌, ◌≤◌, ◌^◌, ◌+◌, Bool, ℤ, Option, List, [], ◌∷◌, ◌++◌, length, refl, ap, sym, ◌∙◌, subst, arith}
use Rattle.std.specs.Bool.{MatchBool}
use Rattle.std.proofs.lemmas.List.{length_push, append_assoc}
use Rattle.cnf_base.specs.Meaning.{IsWithin}
use Rattle.cnf_base.specs.Status.{IsFalsifiedIn}
use Rattle.sat_trail.specs.Trail.{lits}
use Rattle.sat_learn.specs.Reasons.{HasId}
use Rattle.sat_solver.specs.Decision.{IsPassed}
use Rattle.sat_solver.specs.InputClauses.{Store, store}
use Rattle.sat_solver.specs.Sound.{IsSound}
use Rattle.sat_solver.proofs.SearchPlace.{first_passed}
use Rattle.sat_incremental.specs.declared.entry.Entry.{Entry}
use Rattle.sat_incremental.specs.declared.entry.Entry.TheVariants.{Given}
use Rattle.sat_incremental.specs.Entries.{given, live, IsDerivation, AreLemmas, GrowsByClause}
use Rattle.sat_incremental.specs.Holding.{StandsFor}
use Rattle.sat_incremental.specs.declared.search.Search.{Search}
use Rattle.sat_incremental.specs.Searching.{IsSearch}
use Rattle.sat_incremental.proofs.Ease.{ease_search}
use Rattle.sat_incremental.proofs.Derivations.{derivation-given, given-given, newest_has_id}
use Rattle.sat_incremental.proofs.Kept.{sound_entry}
use Rattle.sat_incremental.proofs.give.give_open.Goals as goal

-- a search at level 0 whose entries have one more clause of the formula
record IsGiven (s : Search) (entries : List Entry) (clause : List ℤ) (id : ℕ) : Type 0 where
  has_id : HasId (live entries) id clause
  stands : StandsFor s.vars (live entries) (given s.entries) (store s.premises)
  derivation : IsDerivation entries
  given_is : given entries ≡ given s.entries ++ clause ∷ []
  few : length entries ≤ 2 ^ 60

with_given : (s : Search) (entries : List Entry) (clause : List ℤ) (id : ℕ) → IsSearch s → s.premises.trail.level ≡ 0 → length s.entries < 2 ^ 60 → id ≡ length s.entries + 1 → entries ≡ s.entries ++ Given clause ∷ [] → IsGiven s entries clause id
with_given s entries clause id h root few id_is is =
    let P : List Entry → Type 0 = λ es. IsGiven s es clause id in
    subst P (sym is) (record {
      has_id = newest_has_id s.entries (Given clause) id id_is;
      stands = record {
        sound = sound_entry s.vars s.entries (Given clause) (given s.entries) s.premises.proof_ids.items s.premises.book s.premises.trail h.sound;
        ready = h.ready;
        at_root = root;
      };
      derivation = derivation-given s.entries clause h.derivation;
      given_is = given-given s.entries clause;
      few = omega (arith, length_push s.entries (Given clause), few);
    })

-- what taking the clause in leaves
abbrev Leaves : Search → List Entry → List ℤ → Store → Bool → Type 0
Leaves s entries clause new is_false = MatchBool is_false (IsFalsifiedIn (lits new.trail.assignments) clause × StandsFor s.vars (live entries) (given s.entries) new) (StandsFor s.vars (live entries) (given s.entries ++ clause ∷ []) new)

pub hold-requires-clause-in_range : goal.hold-requires-clause-in_range
hold-requires-clause-in_range c =
    let P : ℕ → Type 0 = λ n. IsWithin n c.args.clause.now in
    subst P (sym (c.back_to_root.ensures.search.sound.book_vars ∙ c.back_to_root.ensures.vars)) c.requires.in_range

pub hold-requires-clause-small : goal.hold-requires-clause-small
hold-requires-clause-small c = omega (arith, c.in_ok-id.ensures.id, c.in_ok-id.ensures.few)

pub returns-then-not-is_false-clause-ease : goal.returns-then-not-is_false-clause-ease
returns-then-not-is_false-clause-ease c =
    let s = c.back_to_root.new.self in
    let h = c.back_to_root.ensures.search in
    let entries = c.push.new.self in
    let clause = c.args.clause.now in
    let entries_are : entries ≡ s.entries ++ Given clause ∷ [] = c.in_ok-push.ensures.ok ∙ ap (λ ls. s.entries ++ Given ls ∷ []) (c.in_ok-own.ensures ∙ c.as_slice.ensures) in
    let made = with_given s entries clause c.in_ok-id.id h c.back_to_root.ensures.root c.in_ok-id.ensures.few c.in_ok-id.ensures.id entries_are in
    let p = c.hold.new.premises in
    let now = subst (Leaves s entries clause (store p)) c.if-not-is_false.true (c.in_ok-is_false.ensures.held s.vars (live entries) (given s.entries) made.has_id made.stands) in
    let G : List (List ℤ) → Type 0 = λ cs. IsSound s.vars (live entries) cs p.proof_ids.items p.book p.trail in
    let P : Option ℕ → Type 0 = λ from. IsPassed s.queue p.trail.assignments from in
    let new : Search = record s { premises = p; gathered = c.hold.new.gathered; from = c.first-search.result; entries = entries } in
    let search : IsSearch new = record {
      few = made.few;
      few_vars = h.few_vars;
      derivation = made.derivation;
      sound = subst G (sym made.given_is) now.sound;
      ready = now.ready;
      passed = subst P (sym c.first-search.ensures) (first_passed s.queue p.trail.assignments);
      queue_vars = h.queue_vars;
      ranks_vars = h.ranks_vars;
      phases_vars = h.phases_vars;
      analyzer_vars = h.analyzer_vars;
      gathered = c.in_ok-is_false.ensures.gathered;
      gathered_vars = c.in_ok-is_false.ensures.gathered_vars ∙ h.gathered_vars;
    } in
    ease_search new search (c.back_to_root.ensures.refuted ∙ c.requires.none)

pub returns-then-not-is_false-clause-grows : goal.returns-then-not-is_false-clause-grows
returns-then-not-is_false-clause-grows c =
    let s = c.back_to_root.new.self in
    let E : List Entry → Type 0 = λ entries. GrowsByClause entries c.args.clause.now c.push.new.self in
    subst E c.back_to_root.ensures.entries ([], c.in_ok-push.ensures.ok ∙ ap (λ ls. s.entries ++ Given ls ∷ []) (c.in_ok-own.ensures ∙ c.as_slice.ensures), tt)

pub refute-requires-clause-search : goal.refute-requires-clause-search
refute-requires-clause-search c =
    let s = c.back_to_root.new.self in
    let h = c.back_to_root.ensures.search in
    let entries = c.push.new.self in
    let clause = c.args.clause.now in
    let entries_are : entries ≡ s.entries ++ Given clause ∷ [] = c.in_ok-push.ensures.ok ∙ ap (λ ls. s.entries ++ Given ls ∷ []) (c.in_ok-own.ensures ∙ c.as_slice.ensures) in
    let made = with_given s entries clause c.in_ok-id.id h c.back_to_root.ensures.root c.in_ok-id.ensures.few c.in_ok-id.ensures.id entries_are in
    let p = c.hold.new.premises in
    let now = subst (Leaves s entries clause (store p)) c.if-not-is_false.false (c.in_ok-is_false.ensures.held s.vars (live entries) (given s.entries) made.has_id made.stands) in
    let P : Option ℕ → Type 0 = λ from. IsPassed s.queue p.trail.assignments from in (
      given s.entries,
      record {
        few = made.few;
        few_vars = h.few_vars;
        derivation = made.derivation;
        sound = now.1.sound;
        ready = now.1.ready;
        passed = subst P (sym c.first-search.ensures) (first_passed s.queue p.trail.assignments);
        queue_vars = h.queue_vars;
        ranks_vars = h.ranks_vars;
        phases_vars = h.phases_vars;
        analyzer_vars = h.analyzer_vars;
        gathered = c.in_ok-is_false.ensures.gathered;
        gathered_vars = c.in_ok-is_false.ensures.gathered_vars ∙ h.gathered_vars;
      },
    )

pub refute-requires-clause-root : goal.refute-requires-clause-root
refute-requires-clause-root c =
    let s = c.back_to_root.new.self in
    let h = c.back_to_root.ensures.search in
    let entries = c.push.new.self in
    let clause = c.args.clause.now in
    let entries_are : entries ≡ s.entries ++ Given clause ∷ [] = c.in_ok-push.ensures.ok ∙ ap (λ ls. s.entries ++ Given ls ∷ []) (c.in_ok-own.ensures ∙ c.as_slice.ensures) in
    let made = with_given s entries clause c.in_ok-id.id h c.back_to_root.ensures.root c.in_ok-id.ensures.few c.in_ok-id.ensures.id entries_are in
    let p = c.hold.new.premises in
    let now = subst (Leaves s entries clause (store p)) c.if-not-is_false.false (c.in_ok-is_false.ensures.held s.vars (live entries) (given s.entries) made.has_id made.stands) in
    now.1.at_root

pub refute-requires-clause-false_now : goal.refute-requires-clause-false_now
refute-requires-clause-false_now c =
    let s = c.back_to_root.new.self in
    let h = c.back_to_root.ensures.search in
    let entries = c.push.new.self in
    let clause = c.args.clause.now in
    let entries_are : entries ≡ s.entries ++ Given clause ∷ [] = c.in_ok-push.ensures.ok ∙ ap (λ ls. s.entries ++ Given ls ∷ []) (c.in_ok-own.ensures ∙ c.as_slice.ensures) in
    let made = with_given s entries clause c.in_ok-id.id h c.back_to_root.ensures.root c.in_ok-id.ensures.few c.in_ok-id.ensures.id entries_are in
    let p = c.hold.new.premises in
    let now = subst (Leaves s entries clause (store p)) c.if-not-is_false.false (c.in_ok-is_false.ensures.held s.vars (live entries) (given s.entries) made.has_id made.stands) in
    let F : List ℤ → Type 0 = λ ls. IsFalsifiedIn (lits p.trail.assignments) ls in
    subst F (sym c.as_slice-2.ensures) now.0

pub refute-requires-clause-has_id : goal.refute-requires-clause-has_id
refute-requires-clause-has_id c =
    let s = c.back_to_root.new.self in
    let h = c.back_to_root.ensures.search in
    let entries = c.push.new.self in
    let clause = c.args.clause.now in
    let entries_are : entries ≡ s.entries ++ Given clause ∷ [] = c.in_ok-push.ensures.ok ∙ ap (λ ls. s.entries ++ Given ls ∷ []) (c.in_ok-own.ensures ∙ c.as_slice.ensures) in
    let made = with_given s entries clause c.in_ok-id.id h c.back_to_root.ensures.root c.in_ok-id.ensures.few c.in_ok-id.ensures.id entries_are in
    let F : List ℤ → Type 0 = λ ls. HasId (live entries) c.in_ok-id.id ls in
    subst F (sym c.as_slice-2.ensures) made.has_id

pub refute-requires-clause-small : goal.refute-requires-clause-small
refute-requires-clause-small c = omega (arith, c.in_ok-id.ensures.id, c.in_ok-id.ensures.few)

pub returns-clause-grows : goal.returns-clause-grows
returns-clause-grows c =
    let s = c.back_to_root.new.self in
    let grown = c.in_ok-refute.ensures.grows in
    let entries_are : c.push.new.self ≡ s.entries ++ Given c.args.clause.now ∷ [] = c.in_ok-push.ensures.ok ∙ ap (λ ls. s.entries ++ Given ls ∷ []) (c.in_ok-own.ensures ∙ c.as_slice.ensures) in
    let F : List Entry → Type 0 = λ entries. GrowsByClause entries c.args.clause.now c.refute.new.search.entries in
    subst F c.back_to_root.ensures.entries (grown.0, grown.1 ∙ ap (λ es. es ++ grown.0) entries_are ∙ append_assoc s.entries (Given c.args.clause.now ∷ []) grown.0, grown.2)
