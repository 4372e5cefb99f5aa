-- The book as it is kept, when it is new and when a clause is added.
use Rattle.std.proofs.Common.{◌≡◌, ℕ, ◌+◌, ◌*◌, ◌^◌, ◌<◌, ◌≤◌, Bool, true, ℤ, pos, Option, None, Some, List, [], ◌∷◌, ◌++◌, length, take, get_or, replicate, refl, ap, sym, ◌∙◌, subst, arith, inl, inr}
use Rattle.std.specs.List.{slice_get, All}
use Rattle.std.proofs.lemmas.Bool.{cases_eq, cases_lt}
use Rattle.std.proofs.lemmas.List.{length-append, length-replicate, length_push, take-append-le, get_or_append_left, get_or-append-add, get_or_at}
use Rattle.std.proofs.lemmas.Option.{slice_get_within, same_Some}
use Rattle.std.proofs.lemmas.List.Elements.{All-nil, All-push}
use Rattle.cnf_base.specs.Literal.{lit_index}
use Rattle.sat_watch.specs.declared.links.Watch.{Watch}
use Rattle.sat_watch.specs.declared.mark.Mark.{Mark}
use Rattle.sat_watch.specs.Book.{BookState, IsBookClause}
use Rattle.sat_watch.specs.Kept.{IsPair, IsWatched, first_lit, second_lit, Each, EachBefore, mark_lits, IsKept}
use Rattle.sat_watch.specs.Links.{AreLinked, watch_lits}
use Rattle.sat_watch.proofs.Lists.{none_linked_new}
use Rattle.sat_watch.proofs.Pairs.{at_literals, lit_read, EachBefore-same, length-lits}
use Rattle.sat_watch.proofs.Slots.{slice_get-left, slice_get-end}

pub IsKept-new : (vars : ℕ) (heads : List (Option ℕ)) (items : List Mark) → vars ≤ 4000000 → heads ≡ replicate (2 * vars + 2) None → length items ≡ vars → IsKept (record { vars = vars; clauses = []; seen = [] }) heads [] items 0 0 true
IsKept-new vars heads items few is room =
    let P : List (Option ℕ) → Type 0 = λ hs. AreLinked hs [] in
    record {
      few_vars = few;
      clauses = All-nil (IsBookClause vars);
      sizes = record {
        heads_room = ap length is ∙ length-replicate (2 * vars + 2) None;
        two_each = refl;
        few = omega arith;
      };
      seen_room = room;
      number = omega arith;
      watched_some = omega arith;
      rising = λ i j le lt. absurd (omega arith);
      linked = subst P (sym is) (none_linked_new (2 * vars + 2));
      pairs = λ place c there. cc;
      watched_before = λ place lt begins i c low there. absurd (omega arith);
      watched_whole = λ yes place c lt there. absurd (omega arith);
    }

before_grown : (R : List ℤ → ℤ → ℤ → Type 0) (clauses more : List (List ℤ)) (watched more_lits : List ℤ) (watched_count : ℕ) → watched_count ≤ length clauses → length watched ≡ 2 * length clauses → EachBefore watched_count R clauses watched → EachBefore watched_count R (clauses ++ more) (watched ++ more_lits)
before_grown R clauses more watched more_lits watched_count le two h =
    EachBefore-same R (clauses ++ more) watched (watched ++ more_lits) watched_count (take-append-le (2 * watched_count) watched more_lits (omega arith))
    (λ place c lt there. h place c lt (sym (slice_get-left clauses more place (omega arith)) ∙ there))

-- a clause more with its two literals
each_push : (R : List ℤ → ℤ → ℤ → Type 0) (clauses : List (List ℤ)) (clause : List ℤ) (watched : List ℤ) (a b : ℤ) → length watched ≡ 2 * length clauses → R clause a b → Each R clauses watched → Each R (clauses ++ clause ∷ []) (watched ++ a ∷ b ∷ [])
each_push R clauses clause watched a b two here h place c there =
    let longer = watched ++ a ∷ b ∷ [] in
    let n = length clauses in
    let within = slice_get_within (clauses ++ clause ∷ []) place c there in
    elim (cases_lt place n) [
      | inl lt ↦ at_literals R c (first_lit watched place) (second_lit watched place) (first_lit longer place) (second_lit longer place)
          (sym (get_or_append_left watched (a ∷ b ∷ []) (pos 0) (2 * place) (omega arith))) (sym (get_or_append_left watched (a ∷ b ∷ []) (pos 0) (2 * place + 1) (omega arith)))
          (h place c (sym (slice_get-left clauses (clause ∷ []) place lt) ∙ there))
      | inr ge ↦ (let same : n ≡ place = omega (arith, within, length_push clauses clause) in
          let P : ℕ → Type 0 = λ k. slice_get (clauses ++ clause ∷ []) k ≡ Some clause in
          let one : clause ≡ c = same_Some clause c (sym (subst P same (slice_get-end clauses clause)) ∙ there) in
          let first : a ≡ first_lit longer n = sym (get_or_at watched a (b ∷ []) (pos 0) (2 * n) two) in
          let second : b ≡ second_lit longer n = sym (ap (λ k. get_or longer (k + 1) (pos 0)) (sym two) ∙ get_or-append-add watched (a ∷ b ∷ []) 1 (pos 0)) in
          let Q : ℕ → Type 0 = λ k. R c (first_lit longer k) (second_lit longer k) in
          let C : List ℤ → Type 0 = λ d. R d a b in
          subst Q same (at_literals R c a b (first_lit longer n) (second_lit longer n) first second (subst C one here)))
    ]

-- the lists of two watches more are there
pub in_range_push : (bound : ℕ) (watches watches' : List Watch) (a b : ℤ) → watch_lits watches' ≡ watch_lits watches ++ a ∷ b ∷ [] → All (λ (w : Watch). lit_index w.lit < bound) watches → lit_index a < bound → lit_index b < bound → All (λ (w : Watch). lit_index w.lit < bound) watches'
in_range_push bound watches watches' a b lits_are all first second k d lt =
    let P : ℤ → Type 0 = λ l. lit_index l < bound in
    let old = watch_lits watches in
    let more = a ∷ b ∷ [] in
    let room : k < length old + 2 = omega (arith, length-lits watches', ap length lits_are, length-append old more) in
    let read : get_or (old ++ more) k (pos 0) ≡ (get_or watches' k d).lit = ap (λ ls. get_or ls k (pos 0)) (sym lits_are) ∙ lit_read watches' k d lt in
    subst P read (elim (cases_lt k (length old)) [
      | inl before ↦ (let there : k < length watches = omega (arith, length-lits watches) in
          subst P (sym (get_or_append_left old more (pos 0) k before)) (subst P (sym (lit_read watches k d there)) (all k d there)))
      | inr past ↦ elim (cases_eq (length old) k) [
        | inl e ↦ subst P (sym (get_or_at old a (b ∷ []) (pos 0) k e)) first
        | inr ne ↦ (let is : length old + 1 ≡ k = omega arith in
            subst P (sym (ap (λ i. get_or (old ++ more) i (pos 0)) (sym is) ∙ get_or-append-add old more 1 (pos 0))) second)
      ]
    ])

pub IsKept-add : (b : BookState) (heads heads' : List (Option ℕ)) (watches watches' : List Watch) (items : List Mark) (count watched_count : ℕ) (quiet : Bool) (clause : List ℤ) (first second : ℤ) → IsKept b heads watches items count watched_count quiet → IsBookClause b.vars clause → IsPair clause first second → watch_lits watches' ≡ watch_lits watches ++ first ∷ second ∷ [] → AreLinked heads' watches' → length heads' ≡ length heads → length watches' + 1 < 2 ^ 32 → IsKept (record { vars = b.vars; clauses = b.clauses ++ clause ∷ []; seen = b.seen }) heads' watches' items count watched_count quiet
IsKept-add b heads heads' watches watches' items count watched_count quiet clause first second h book pair lits_are linked heads_len few =
    let le = h.watched_some in
    let room = h.sizes.two_each in
    let len = length_push b.clauses clause in
    let old = watch_lits watches in
    let more = first ∷ second ∷ [] in
    let two : length old ≡ 2 * length b.clauses = length-lits watches ∙ room in
    let E : List ℤ → Type 0 = λ ls. Each IsPair (b.clauses ++ clause ∷ []) ls in
    let B : List ℤ → List ℤ → Type 0 = λ true_lits ls. EachBefore watched_count (IsWatched true_lits true_lits) (b.clauses ++ clause ∷ []) ls in
    let still : (true_lits : List ℤ) → EachBefore watched_count (IsWatched true_lits true_lits) b.clauses old → B true_lits (watch_lits watches') = λ true_lits k.
    subst (B true_lits) (sym lits_are) (before_grown (IsWatched true_lits true_lits) b.clauses (clause ∷ []) old more watched_count le two k) in
    record {
      few_vars = h.few_vars;
      clauses = All-push (IsBookClause b.vars) b.clauses clause h.clauses book;
      sizes = record {
        heads_room = heads_len ∙ h.sizes.heads_room;
        two_each = omega (arith, length-lits watches', ap length lits_are, length-append old more, two);
        few = few;
      };
      seen_room = h.seen_room;
      number = h.number;
      watched_some = omega arith;
      rising = h.rising;
      linked = linked;
      pairs = subst E (sym lits_are) (each_push IsPair b.clauses clause old first second two pair h.pairs);
      watched_before = λ place lt begins. still (take place (mark_lits b.seen)) (h.watched_before place lt begins);
      watched_whole = λ said. still (mark_lits b.seen) (h.watched_whole said);
    }
