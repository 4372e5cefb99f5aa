-- Lists of users, linked from the last one to the first.
use Rattle.std.proofs.Common.{◌≡◌, ◌≢◌, ℕ, inl, inr, ◌+◌, ◌<◌, List, length, get_or, set, replicate, arith, sym, ap, ◌∙◌, subst}
use Rattle.std.proofs.lemmas.Bool.{cases_eq}
use Rattle.std.proofs.lemmas.List.{length-set, length-replicate, get_or-replicate, get_or-set_same, get_or-set_other}
use Rattle.gate_order.specs.UserLists.{IsLastUser, AreLinked}

-- a bound that passes no user of the place
last_stays : (uses : List ℕ) (bound place last : ℕ) → IsLastUser uses bound place last → get_or uses bound 0 ≢ place + 1 → IsLastUser uses (bound + 1) place last
last_stays uses bound place last is other = record {
  within = omega (arith, is.within);
  user = is.user;
  none = λ u h below same. elim (cases_eq u bound) [
    | inl e ↦ other (subst (λ (n : ℕ). get_or uses n 0 ≡ place + 1) e same)
    | inr ne ↦ is.none u h (omega arith) same
  ];
}

pub linked_none : (uses lasts earlier : List ℕ) → lasts ≡ replicate (length uses) 0 → length earlier ≡ length uses → AreLinked uses 0 lasts earlier
linked_none uses lasts earlier zeros size = record {
  lasts_size = ap length zeros ∙ length-replicate (length uses) 0;
  earlier_size = size;
  last = λ place h.
      let zero_last : get_or lasts place 0 ≡ 0 = ap (λ (l : List ℕ). get_or l place 0) zeros ∙ get_or-replicate (length uses) place 0 0 h in
      record {
        within = omega (arith, zero_last);
        user = λ some. absurd (omega (arith, zero_last));
        none = λ u low below. absurd (omega (arith, below));
      };
  before = λ user place h. absurd (omega (arith, h));
}

pub linked_more_none : (uses lasts earlier : List ℕ) (bound : ℕ) → AreLinked uses bound lasts earlier → get_or uses bound 0 ≡ 0 → AreLinked uses (bound + 1) lasts earlier
linked_more_none uses lasts earlier bound linked unused = record {
  lasts_size = linked.lasts_size;
  earlier_size = linked.earlier_size;
  last = λ place h. last_stays uses bound place (get_or lasts place 0) (linked.last place h) (λ same. omega arith);
  before = λ user place h used. elim (cases_eq user bound) [
    | inl e ↦ absurd (omega (arith, used, ap (λ n. get_or uses n 0) e))
    | inr ne ↦ linked.before user place (omega arith) used
  ];
}

module _ (uses lasts earlier : List ℕ) (bound place : ℕ) (linked : AreLinked uses bound lasts earlier) (inside : bound < length uses) (within : place < length uses) (used : get_or uses bound 0 ≡ place + 1) where
  last_here : IsLastUser uses (bound + 1) place (bound + 1)
  last_here = record {
    within = omega arith;
    user = λ some. ap (λ n. get_or uses n 0) (omega arith) ∙ used;
    none = λ u low below. absurd (omega (arith, below));
  }

  last_after : (p : ℕ) → p < length uses → IsLastUser uses (bound + 1) p (get_or (set lasts place (bound + 1)) p 0)
  last_after p h = elim (cases_eq p place) [
    | inl e ↦
        let written : get_or (set lasts place (bound + 1)) p 0 ≡ bound + 1 =
        ap (λ n. get_or (set lasts place (bound + 1)) n 0) e ∙ get_or-set_same lasts place (bound + 1) 0 (omega (arith, linked.lasts_size))
        in
        let P : ℕ → ℕ → Type 0 = λ q last. IsLastUser uses (bound + 1) q last in
        subst (P p) (sym written) (subst (λ (q : ℕ). P q (bound + 1)) (sym e) last_here)
    | inr ne ↦
        subst (λ (last : ℕ). IsLastUser uses (bound + 1) p last) (sym (get_or-set_other lasts place p (bound + 1) 0 ne))
        (last_stays uses bound p (get_or lasts p 0) (linked.last p h) (λ same. ne (omega (arith, same, used))))
  ]

  before_after : (user p : ℕ) → user < bound + 1 → get_or uses user 0 ≡ p + 1 → IsLastUser uses user p (get_or (set earlier bound (get_or lasts place 0)) user 0)
  before_after user p h uses_p = elim (cases_eq user bound) [
    | inl e ↦
        let same_place : place ≡ p = omega (arith, used, uses_p, ap (λ n. get_or uses n 0) e) in
        let written : get_or (set earlier bound (get_or lasts place 0)) user 0 ≡ get_or lasts place 0 =
        ap (λ n. get_or (set earlier bound (get_or lasts place 0)) n 0) e ∙ get_or-set_same earlier bound (get_or lasts place 0) 0 (omega (arith, linked.earlier_size))
        in
        let last_place : IsLastUser uses bound place (get_or lasts place 0) = linked.last place within in
        subst (λ (last : ℕ). IsLastUser uses user p last) (sym written)
        (subst (λ (q : ℕ). IsLastUser uses user q (get_or lasts place 0)) same_place
        (subst (λ (b : ℕ). IsLastUser uses b place (get_or lasts place 0)) (sym e) last_place))
    | inr ne ↦
        subst (λ (last : ℕ). IsLastUser uses user p last) (sym (get_or-set_other earlier bound user (get_or lasts place 0) 0 ne))
        (linked.before user p (omega arith) uses_p)
  ]

  pub linked_more : AreLinked uses (bound + 1) (set lasts place (bound + 1)) (set earlier bound (get_or lasts place 0))
  linked_more = record {
    lasts_size = length-set lasts place (bound + 1) ∙ linked.lasts_size;
    earlier_size = length-set earlier bound (get_or lasts place 0) ∙ linked.earlier_size;
    last = last_after;
    before = before_after;
  }
