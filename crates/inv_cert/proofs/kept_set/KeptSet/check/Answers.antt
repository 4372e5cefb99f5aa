use Rattle.std.proofs.Common.{rules, ◌≡◌, ℕ, ◌<◌, length, inl, refl, subst, sym, Option, All}
use Rattle.std.specs.Prelude.{MatchOption}
use Rattle.aig_model.specs.declared.parts.Parts.{Parts}
use Rattle.ketch_base.specs.First.{IsFirst}
use Rattle.inv_cert.specs.Resets.{HoldsAtReset, FailsAtReset}
use Rattle.inv_cert.specs.KeptSets.{KeptClauses, FailsKept, IsKeptBy, IsKeptSet}
use Rattle.inv_cert.specs.declared.fault.KeptFault.TheVariants.{Start, Kept}
use Rattle.inv_cert.proofs.Causes.{refused, not_refused, refused_is_not_ok}
use Rattle.inv_cert.proofs.kept_set.KeptSet.check.Goals as goal

start_cause : goal.returns-in-Some-clause-ok
start_cause c =
    let s : KeptClauses = record { circuit = c.args.circuit.now; clauses = c.args.clauses; kept = c.args.kept } in
    let count : length s.kept ≡ length s.clauses = search rules in
    let first : IsFirst (FailsAtReset s.circuit s.clauses) c.in-Some.clause = search rules in
    refused_is_not_ok s (Start c.in-Some.clause) (λ h. cc) (count, first)

pub returns-in-Some-clause-ok : goal.returns-in-Some-clause-ok
returns-in-Some-clause-ok c = start_cause c

pub returns-in-Some-clause-start : goal.returns-in-Some-clause-start
returns-in-Some-clause-start c k =
    let s : KeptClauses = record { circuit = c.args.circuit.now; clauses = c.args.clauses; kept = c.args.kept } in
    let count : length s.kept ≡ length s.clauses = search rules in
    let first : IsFirst (FailsAtReset s.circuit s.clauses) c.in-Some.clause = search rules in
    refused s (Start c.in-Some.clause) (Start k) (λ h. cc) (count, first)

pub returns-in-Some-clause-kept : goal.returns-in-Some-clause-kept
returns-in-Some-clause-kept c k =
    let s : KeptClauses = record { circuit = c.args.circuit.now; clauses = c.args.clauses; kept = c.args.kept } in
    let count : length s.kept ≡ length s.clauses = search rules in
    let first : IsFirst (FailsAtReset s.circuit s.clauses) c.in-Some.clause = search rules in
    refused s (Start c.in-Some.clause) (Kept k) (λ h. cc) (count, first)

pub returns-in-Some-2-clause-start : goal.returns-in-Some-2-clause-start
returns-in-Some-2-clause-start c k =
    let s : KeptClauses = record { circuit = c.args.circuit.now; clauses = c.args.clauses; kept = c.args.kept } in
    let count : length s.kept ≡ length s.clauses = search rules in
    let starts : All (HoldsAtReset s.circuit) s.clauses =
    rw c.as_slice.ensures at (subst (λ (o : Option ℕ). MatchOption o (All (HoldsAtReset s.circuit) c.as_slice.result.now) (IsFirst (FailsAtReset s.circuit c.as_slice.result.now))) c.in_default.is c.in_ok-clause.ensures) in
    let first : IsFirst (FailsKept s.circuit s.clauses s.kept) c.in-Some-2.clause = search rules in
    refused s (Kept c.in-Some-2.clause) (Start k) (λ h. cc) (count, starts, first)

pub returns-in-Some-2-clause-kept : goal.returns-in-Some-2-clause-kept
returns-in-Some-2-clause-kept c k =
    let s : KeptClauses = record { circuit = c.args.circuit.now; clauses = c.args.clauses; kept = c.args.kept } in
    let count : length s.kept ≡ length s.clauses = search rules in
    let starts : All (HoldsAtReset s.circuit) s.clauses =
    rw c.as_slice.ensures at (subst (λ (o : Option ℕ). MatchOption o (All (HoldsAtReset s.circuit) c.as_slice.result.now) (IsFirst (FailsAtReset s.circuit c.as_slice.result.now))) c.in_default.is c.in_ok-clause.ensures) in
    let first : IsFirst (FailsKept s.circuit s.clauses s.kept) c.in-Some-2.clause = search rules in
    refused s (Kept c.in-Some-2.clause) (Kept k) (λ h. cc) (count, starts, first)

is_kept_set : (c : goal.After-of-circuit) → IsKeptSet (record { circuit = c.args.circuit.now; clauses = c.args.clauses; kept = c.args.kept })
is_kept_set c =
    let s : KeptClauses = record { circuit = c.args.circuit.now; clauses = c.args.clauses; kept = c.args.kept } in
    record {
      circuit = c.is_well_formed.ensures;
      latches = c.requires.latches;
      starts = rw c.as_slice.ensures at (subst (λ (o : Option ℕ). MatchOption o (All (HoldsAtReset s.circuit) c.as_slice.result.now) (IsFirst (FailsAtReset s.circuit c.as_slice.result.now))) c.in_default.is c.in_ok-clause.ensures);
      count = search rules;
      accepted = rw c.as_slice-2.ensures at (subst (λ (o : Option ℕ). MatchOption o ((k : ℕ) → k < length s.clauses → IsKeptBy s.circuit s.clauses c.as_slice-2.result.now k) (IsFirst (FailsKept s.circuit s.clauses c.as_slice-2.result.now)))
          c.in_default-2.is c.in_ok-clause-2.ensures);
      written = c.requires.written;
    }

pub invariant_of-result : goal.invariant_of-result
invariant_of-result c =
    subst (λ (x : Parts). IsKeptSet (record { circuit = x; clauses = c.args.clauses; kept = c.args.kept })) (sym c.of-circuit.ensures) (is_kept_set c)

pub returns-clause-ok : goal.returns-clause-ok
returns-clause-ok c = record {
  only = λ ok. is_kept_set c;
  comes = λ h. inl refl;
}

pub returns-clause-start : goal.returns-clause-start
returns-clause-start c k =
    not_refused (record { circuit = c.args.circuit.now; clauses = c.args.clauses; kept = c.args.kept }) _ (Start k) (λ h. cc) (is_kept_set c)
