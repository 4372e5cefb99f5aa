-- The search leaves out no clause of an invariant, and what is kept in the end is one.
use Rattle.std.proofs.Common.{ℕ, ◌<◌, ◌^◌, Bool, ℤ, List, [], length, get_or, sym, subst, arith, Contains}
use Rattle.std.proofs.lemmas.List.{get_or_default}
use Rattle.std.proofs.lemmas.List.Elements.{All-contains, Contains-get_or}
use Rattle.aig_model.specs.Meaning.{latch_values, next_values}
use Rattle.aig_model.specs.WellFormed.{IsCircuit}
use Rattle.aig_model.specs.LatchClauses.{IsInvariant, IsLatchClause, SatisfiesClause, SatisfiesClauses}
use Rattle.aig_model.specs.declared.parts.Parts.{Parts}
use Rattle.lrat_text.specs.declared.proof.LratStep.{LratStep}
use Rattle.lrat_text.specs.Text.{IsWritable}
use Rattle.inv_cert.specs.Resets.{HoldsAtReset}
use Rattle.inv_cert.specs.KeptSets.{IsKeptSet}
use Rattle.inv_cert.proofs.Invariance.{is_invariant}
use Rattle.inv_prover.specs.Greatest.{IsPart, ArePicked, IsInGreatest, IsGreatest, ContainsGreatest}
use Rattle.inv_prover.specs.Search.{AreAskable, AreLeft, IsBroken, Shrinks}
use Rattle.inv_prover.specs.Answers.{AreKept, IsWhole}
use Rattle.inv_prover.proofs.Parts.{again, among, each, fewer, itself, less}

-- ---- fewer clauses
pub not_yet : (c : Parts) (clauses : List (List ℤ)) → Shrinks c clauses clauses
not_yet c clauses = record { part = itself clauses; invariants = λ subset inside invariant. inside }

pub further : (c : Parts) (old mid new : List (List ℤ)) → Shrinks c old mid → Shrinks c mid new → Shrinks c old new
further c old mid new h k = record {
  part = again new mid old k.part h.part;
  invariants = λ subset inside invariant. k.invariants subset (h.invariants subset inside invariant) invariant;
}

-- an invariant holds at reset
pub at_reset : (c : Parts) (candidates clauses : List (List ℤ)) → ArePicked (HoldsAtReset c) candidates clauses → Shrinks c candidates clauses
at_reset c candidates clauses h = record {
  part = h.part;
  invariants = λ subset inside invariant k d below. h.whole (get_or subset k d) (inside k d below) (λ state reset. invariant.start state reset k d below);
}

-- an invariant holds after a step before which the clauses hold that it is among
pub after_step : (c : Parts) (clauses left : List (List ℤ)) (place : ℕ) (next : List Bool) → IsBroken c clauses place next
    → ArePicked (SatisfiesClause next) clauses left → Shrinks c clauses left
after_step c clauses left place next broken h = record {
  part = h.part;
  invariants = λ subset inside invariant k d below.
      let before : SatisfiesClauses (latch_values c broken.before) subset = λ j e within. All-contains (SatisfiesClause (latch_values c broken.before)) clauses (get_or subset j e) broken.holds.satisfied (inside j e within) in
      let after : SatisfiesClauses (next_values c broken.before) subset = invariant.kept broken.before broken.holds.fits broken.holds.legal before in
      h.whole (get_or subset k d) (inside k d below) (subst (λ (s : List Bool). SatisfiesClause s (get_or subset k d)) (sym broken.after) (after k d below));
}

pub fewer_after_step : (c : Parts) (clauses left : List (List ℤ)) (place : ℕ) (next : List Bool) → IsBroken c clauses place next
    → ArePicked (SatisfiesClause next) clauses left → place < length clauses → length left < length clauses
fewer_after_step c clauses left place next broken h inside = less (SatisfiesClause next) left clauses place h.part h.hold inside broken.fails

pub askable : (c : Parts) (clauses left : List (List ℤ)) → AreAskable c clauses → IsPart left clauses → AreAskable c left
askable c clauses left h part = record {
  latches = each (IsLatchClause c) left clauses part h.latches;
  few = let n = fewer left clauses part in omega arith;
  short = each (λ clause. length clause < 2 ^ 32) left clauses part h.short;
}

-- ---- the search
pub begin : (c : Parts) (candidates clauses : List (List ℤ)) → ArePicked (HoldsAtReset c) candidates clauses → AreLeft c candidates clauses
begin c candidates clauses h = record { shrinks = at_reset c candidates clauses h; starts = h.hold }

pub go_on : (c : Parts) (candidates clauses left : List (List ℤ)) → AreLeft c candidates clauses → Shrinks c clauses left → AreLeft c candidates left
go_on c candidates clauses left h k = record {
  shrinks = further c candidates clauses left h.shrinks k;
  starts = each (HoldsAtReset c) left clauses k.part h.starts;
}

-- ---- the end
has_all : (c : Parts) (candidates clauses : List (List ℤ)) → AreLeft c candidates clauses → (clause : List ℤ) → IsInGreatest c candidates clause → Contains clauses clause
has_all c candidates clauses left clause g = All-contains (Contains clauses) g.subset clause (left.shrinks.invariants g.subset g.among g.invariant) g.has

pub contains_greatest : (c : Parts) (candidates clauses : List (List ℤ)) → AreLeft c candidates clauses → ContainsGreatest c candidates clauses
contains_greatest c candidates clauses left = record { part = left.shrinks.part; all = has_all c candidates clauses left }

kept_set : (c : Parts) (candidates clauses : List (List ℤ)) (lemmas : ℕ) (proofs : List (List LratStep)) → IsCircuit c → AreAskable c clauses → AreLeft c candidates clauses
    → AreKept c clauses lemmas proofs → IsKeptSet (record { circuit = c; clauses = clauses; kept = proofs })
kept_set c candidates clauses lemmas proofs circuit ask left kept = record {
  circuit = circuit;
  latches = ask.latches;
  starts = left.starts;
  count = kept.count;
  accepted = λ k inside. (kept.refutations k inside).accepted;
  written = λ k d inside. subst IsWritable (get_or_default proofs k [] d inside) ((kept.refutations k (omega (arith, inside, kept.count))).written);
}

pub whole : (c : Parts) (candidates clauses : List (List ℤ)) (lemmas : ℕ) (proofs : List (List LratStep)) → IsCircuit c → AreAskable c clauses → AreLeft c candidates clauses
    → AreKept c clauses lemmas proofs → IsWhole c candidates lemmas clauses proofs
whole c candidates clauses lemmas proofs circuit ask left kept =
    let set : IsKeptSet (record { circuit = c; clauses = clauses; kept = proofs }) = kept_set c candidates clauses lemmas proofs circuit ask left kept in
    record {
      greatest = record {
        part = left.shrinks.part;
        exactly = λ clause. (
          λ here. record { subset = clauses; among = among clauses candidates left.shrinks.part; invariant = is_invariant (record { circuit = c; clauses = clauses; kept = proofs }) set; has = here },
          has_all c candidates clauses left clause,
        );
      };
      kept = set;
      proved = kept;
    }

-- ---- the greatest invariant is one
pub greatest_is_invariant : (c : Parts) (candidates clauses : List (List ℤ)) → IsGreatest c candidates clauses → IsInvariant c clauses
greatest_is_invariant c candidates clauses h = record {
  start = λ state reset k d below.
      let x : List ℤ = get_or clauses k d in
      let g : IsInGreatest c candidates x = (h.exactly x).0 (Contains-get_or clauses k d below) in
      All-contains (SatisfiesClause state) g.subset x (g.invariant.start state reset) g.has;
  kept = λ a fits legal satisfied k d below.
      let x : List ℤ = get_or clauses k d in
      let g : IsInGreatest c candidates x = (h.exactly x).0 (Contains-get_or clauses k d below) in
      let before : SatisfiesClauses (latch_values c a) g.subset = λ j e within. All-contains (SatisfiesClause (latch_values c a)) clauses (get_or g.subset j e) satisfied
      ((h.exactly (get_or g.subset j e)).1 (record { subset = g.subset; among = g.among; invariant = g.invariant; has = Contains-get_or g.subset j e within })) in
      All-contains (SatisfiesClause (next_values c a)) g.subset x (g.invariant.kept a fits legal before) g.has;
}
