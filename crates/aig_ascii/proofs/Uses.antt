-- Uses that wait for a definition.
use Rattle.std.proofs.Common.{◌≡◌, ℕ, Bool, true, false, ◌||◌, List, [], ◌∷◌, ◌++◌, nat_eq, refl, sym, ap, ◌∙◌}
use Rattle.std.proofs.lemmas.List.{map-append}
use Rattle.aig_model.specs.Literal.{var}
use Rattle.aig_ascii.specs.Sections.{defines, is_known}
use Rattle.aig_ascii.specs.Drafts.{Covers, pending_demands, StandFor}
use Rattle.aig_ascii.specs.FirstFaults.{first_unmet}
use Rattle.aig_ascii.specs.declared.draft.Use.{Use}
use Rattle.aig_ascii.specs.declared.fault.AagKind.TheVariants.{Undefined}
use Rattle.aig_ascii.proofs.FirstFaults.{or_else, or_else-none, first_unmet-append}

pub known-covers : (all lits : List ℕ) (lit : ℕ) → Covers all lits → is_known lits lit ≡ true → is_known all lit ≡ true
known-covers all lits lit covers known =
    let step : (z : Bool) → (z || defines lits (var lit)) ≡ true → (z || defines all (var lit)) ≡ true = λ z. elim z as (λ v. (v || defines lits (var lit)) ≡ true → (v || defines all (var lit)) ≡ true) [
      | true ↦ λ _. refl
      | false ↦ λ h. covers (var lit) h
    ] in
    step (nat_eq (var lit) 0) known

-- a use that is known already needs no note
pub stand-known : (lits : List ℕ) (pending : List Use) (u : Use) → is_known lits u.lit ≡ true → StandFor lits pending (pending ++ u ∷ [])
stand-known lits pending u known all covers =
    let met = known-covers all lits u.lit covers known in
    sym (ap first_unmet (map-append _ pending (u ∷ [])) ∙ first_unmet-append (pending_demands all pending) (pending_demands all (u ∷ []))
    ∙ ap (or_else (first_unmet (pending_demands all pending))) (ap (λ (t : Bool). first_unmet (record { at = u.at; kind = Undefined; met = t } ∷ [])) met)
    ∙ or_else-none (first_unmet (pending_demands all pending)))

-- the uses of a line, behind those before it
pub stand-append : (lits : List ℕ) (uses pending new more : List Use) → StandFor lits pending uses → StandFor lits new (pending ++ more) → StandFor lits new (uses ++ more)
stand-append lits uses pending new more old step all covers =
    let last = pending_demands all more in
    step all covers ∙ ap first_unmet (map-append _ pending more) ∙ first_unmet-append (pending_demands all pending) last
    ∙ ap (λ o. or_else o (first_unmet last)) (old all covers)
    ∙ sym (ap first_unmet (map-append _ uses more) ∙ first_unmet-append (pending_demands all uses) last)

-- more literals may be defined
pub stand-covers : (lits more : List ℕ) (pending uses : List Use) → Covers more lits → StandFor lits pending uses → StandFor more pending uses
stand-covers lits more pending uses covers s all c = s all (λ v d. c v (covers v d))

pub stand-front : (lits : List ℕ) (new old more : List Use) → StandFor lits new old → StandFor lits (new ++ more) (old ++ more)
stand-front lits new old more s all covers =
    let last = pending_demands all more in
    ap first_unmet (map-append _ new more) ∙ first_unmet-append (pending_demands all new) last
    ∙ ap (λ o. or_else o (first_unmet last)) (s all covers)
    ∙ sym (ap first_unmet (map-append _ old more) ∙ first_unmet-append (pending_demands all old) last)
