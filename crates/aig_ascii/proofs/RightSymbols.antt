-- What the symbols say whose demands are met.
use Rattle.std.proofs.Common.{◌≡◌, ◌≢◌, ℕ, zero, suc, ◌+◌, ◌<◌, Bool, true, false, cond, not, ◌&&◌, ◌||◌, eqb, nat_eq, Option, None, Some, List, [], ◌∷◌, ◌++◌, AllPairs, Contains, length, get_or, refl, sym, ap, ◌∙◌, subst, inl, inr, arith, option_and_then}
use Rattle.std.specs.Option.{option_to_list}
use Rattle.std.specs.List.{AllByRecursion}
use Rattle.std.specs.Char.{is_ascii_digit}
use Rattle.std.proofs.lemmas.Bool.Decides.{nat_tests}
use Rattle.std.proofs.lemmas.List.Elements.{All-from_recursion}
use Rattle.std.proofs.lemmas.List.Kept.{AllPairs-cons}
use Rattle.text_words.specs.Numbers.{natural_of}
use Rattle.aig_model.specs.WellFormed.{AreNames, Exists, IsName}
use Rattle.aig_model.specs.declared.parts.Parts.{Parts}
use Rattle.aig_model.specs.declared.parts.Place.{Place}
use Rattle.aig_model.specs.declared.parts.Place.TheVariants as places
use Rattle.aig_model.specs.declared.parts.Named.{Named}
use Rattle.aig_model.proofs.Elements.{Contains-cons_cases, Contains-nil}
use Rattle.text_words.proofs.Written.{each-weaker}
use Rattle.text_words.specs.Text.{Rest, ends_line, line_bytes, leading_digits, behind_digits}
use Rattle.aig_ascii.specs.Demands.{demand}
use Rattle.aig_ascii.specs.Symbols.{is_empty, symbol_on, symbol_demands, symbols_of, place_at, name_behind, named, symbol_of, exists_in, same_place, is_named, is_right}
use Rattle.aig_ascii.specs.FirstFaults.{first_unmet}
use Rattle.aig_ascii.specs.declared.header.Sizes.{Sizes}
use Rattle.aig_ascii.specs.declared.fault.SharedKind.TheVariants.{Symbol}
use Rattle.aig_ascii.proofs.Slots.{below, is_named-push}
use Rattle.aig_ascii.proofs.RightLines.{both-met, not-met}
use Rattle.aig_ascii.specs.declared.fault.SharedKind.{SharedKind}
use Rattle.aig_ascii.proofs.FirstFaults.{met-first}

-- ---- the bytes of a line

abbrev EndsRight : ℕ → List ℕ → Type 0
EndsRight b [] = b ≢ 13
EndsRight b (c ∷ bs) = Unit {0}

-- no newline, and no carriage return at the end
abbrev InLine : List ℕ → Type 0
InLine [] = Unit {0}
InLine (b ∷ bs) = (b ≢ 10) × (EndsRight b bs × InLine bs)

none-left : (bs : List ℕ) → line_bytes bs ≡ [] → ends_line bs ≡ true
none-left [] e = refl
none-left (b ∷ bs) e =
    let step : (t : Bool) → cond t [] (b ∷ line_bytes bs) ≡ [] → t ≡ true = λ t. elim t as (λ v. cond v [] (b ∷ line_bytes bs) ≡ [] → v ≡ true) [
      | true ↦ λ _. refl
      | false ↦ λ h. cc
    ] in
    step (ends_line (b ∷ bs)) e

no-newline : (b : ℕ) (bs : List ℕ) → ends_line (b ∷ bs) ≡ false → b ≢ 10
no-newline b bs e s =
    let here : eqb b 10 ≡ true = grind (arith, nat_tests) in
    let ends : ends_line (b ∷ bs) ≡ true = ap (λ t. t || (eqb b 13 && ends_line bs)) here in
    cc

no-return : (b : ℕ) (bs : List ℕ) → ends_line (b ∷ bs) ≡ false → ends_line bs ≡ true → b ≢ 13
no-return b bs e last s =
    let here : eqb b 13 ≡ true = grind (arith, nat_tests) in
    let either : (t : Bool) → (t || true) ≡ true = λ t. elim t as (λ v. (v || true) ≡ true) [ true ↦ refl | false ↦ refl ] in
    let ends : ends_line (b ∷ bs) ≡ true = ap (λ t. eqb b 10 || (t && ends_line bs)) here ∙ ap (λ t. eqb b 10 || t) last ∙ either (eqb b 10) in
    cc

in-line : (bs : List ℕ) → InLine (line_bytes bs)
in-line [] = tt
in-line (b ∷ bs) =
    let end : (e : ends_line (b ∷ bs) ≡ false) (xs : List ℕ) → line_bytes bs ≡ xs → EndsRight b xs = λ e xs. elim xs as (λ v. line_bytes bs ≡ v → EndsRight b v) [
      | [] ↦ λ none. no-return b bs e (none-left bs none)
      | (c ∷ cs) ↦ λ some. tt
    ] in
    let step : (t : Bool) → ends_line (b ∷ bs) ≡ t → InLine (cond t [] (b ∷ line_bytes bs)) = λ t. elim t as (λ v. ends_line (b ∷ bs) ≡ v → InLine (cond v [] (b ∷ line_bytes bs))) [
      | true ↦ λ e. tt
      | false ↦ λ e. (no-newline b bs e, (end e (line_bytes bs) refl, in-line bs))
    ] in
    step (ends_line (b ∷ bs)) refl

behind-in-line : (bs : List ℕ) → InLine bs → InLine (behind_digits bs)
behind-in-line [] l = tt
behind-in-line (b ∷ bs) l =
    let step : (t : Bool) → InLine (cond t (behind_digits bs) (b ∷ bs)) = λ t. elim t as (λ v. InLine (cond v (behind_digits bs) (b ∷ bs))) [
      | true ↦ behind-in-line bs l.1.1
      | false ↦ l
    ] in
    step (is_ascii_digit b)

-- a name: some bytes of a line's end
record RightName (name : List ℕ) : Type 0 where
  pub some : is_empty name ≡ false
  pub line : InLine name

name-behind : (xs name : List ℕ) → name_behind xs ≡ Some name → InLine xs → RightName name
name-behind [] name e l = cc
name-behind (b ∷ bs) name e l =
    let step : (t : Bool) → (eqb b 32 && not (is_empty bs)) ≡ t → cond t (Some bs) None ≡ Some name → RightName name = λ t. elim t as (λ v. (eqb b 32 && not (is_empty bs)) ≡ v → cond v (Some bs) None ≡ Some name → RightName name) [
      | true ↦ λ is h. let same : bs ≡ name = cc in subst (λ (xs : List ℕ). RightName xs) same (record { some = not-met (is_empty bs) (both-met (eqb b 32) (not (is_empty bs)) is).1; line = l.1.1 })
      | false ↦ λ is h. cc
    ] in
    step (eqb b 32 && not (is_empty bs)) refl e

named-name : (o : Option Place) (q : Option (List ℕ)) (s : Named) → named o q ≡ Some s → q ≡ Some s.name
named-name (Some place) (Some name) s e = let same : ◌≡◌ {A = Named} (record { place = place; name = name }) s = cc in ap (λ (x : Named). Some x.name) same
named-name (Some place) None s e = cc
named-name None q s e = cc

symbol-name : (line : List ℕ) (s : Named) → symbol_of line ≡ Some s → InLine line → RightName s.name
symbol-name [] s e l = cc
symbol-name (letter ∷ bs) s e l =
    name-behind (behind_digits bs) s.name (named-name (option_and_then (place_at letter) (natural_of (leading_digits bs))) (name_behind (behind_digits bs)) s e) (behind-in-line bs l.1.1)

no-newlines : (bs : List ℕ) → InLine bs → Contains bs 10 → ⊥
no-newlines [] l c = Contains-nil 10 c
no-newlines (b ∷ bs) l c = elim (Contains-cons_cases b 10 bs c) as (λ _. ⊥) [ inl h ↦ l.0 h | inr h ↦ no-newlines bs l.1.1 h ]

last-byte : (bs : List ℕ) (k : ℕ) → InLine bs → k + 1 ≡ length bs → get_or bs k 0 ≢ 13
last-byte [] k l h = absurd (omega arith)
last-byte (b ∷ []) zero l h = l.1.0
last-byte (b ∷ []) (suc k) l h = absurd (omega arith)
last-byte (b ∷ c ∷ bs) zero l h = absurd (omega arith)
last-byte (b ∷ c ∷ bs) (suc k) l h = last-byte (c ∷ bs) k l.1.1 (omega arith)

some-length : (bs : List ℕ) → is_empty bs ≡ false → 0 < length bs
some-length [] e = cc
some-length (b ∷ bs) e = omega arith

right-name : (name : List ℕ) → RightName name → IsName name
right-name name n = record { some = some-length name n.some; one_line = no-newlines name n.line; end = λ k h. last-byte name k n.line h }

-- ---- the symbols

-- of each name the item is there, and the name has its form
pub record RightSymbol (sizes : Sizes) (n : Named) : Type 0 where
  pub exists : exists_in sizes n.place ≡ true
  pub name : IsName n.name

-- names of which each is for another item than those before it
abbrev pub FreshNames : List Named → List Named → Type 0
FreshNames earlier [] = Unit {0}
FreshNames earlier (n ∷ ns) = (is_named earlier n.place ≡ false) × FreshNames (earlier ++ n ∷ []) ns

pub record RightSymbols (sizes : Sizes) (earlier names : List Named) : Type 0 where
  pub each : AllByRecursion (RightSymbol sizes) names
  pub fresh : FreshNames earlier names

pub right-symbols : {K : Type 0} (kind : SharedKind → K) (sizes : Sizes) (earlier : List Named) (lines : List Rest) → first_unmet (symbol_demands kind sizes earlier lines) ≡ None → RightSymbols sizes earlier (symbols_of lines)
right-symbols kind sizes earlier [] m = record { each = tt; fresh = tt }
right-symbols kind sizes earlier (r ∷ rs) m =
    let G : Type 0 = RightSymbols sizes earlier (symbols_of (r ∷ rs)) in
    let step : (o : Option Named) → symbol_on r ≡ o → first_unmet (demand r.at (kind Symbol) (is_right sizes earlier o) ∷ symbol_demands kind sizes (earlier ++ option_to_list o) rs) ≡ None → G = λ o. elim o as (λ v. symbol_on r ≡ v → first_unmet (demand r.at (kind Symbol) (is_right sizes earlier v) ∷ symbol_demands kind sizes (earlier ++ option_to_list v) rs) ≡ None → G) [
      | None ↦ λ is h. cc
      | Some s ↦ λ is h.
          let both = met-first (demand r.at (kind Symbol) (is_right sizes earlier (Some s))) (symbol_demands kind sizes (earlier ++ s ∷ []) rs) h in
          let right = both-met (exists_in sizes s.place) (not (is_named earlier s.place)) both.0 in
          let rest = right-symbols kind sizes (earlier ++ s ∷ []) rs both.1 in
          let all : RightSymbols sizes earlier (s ∷ symbols_of rs) = record {
            each = (record { exists = right.0; name = right-name s.name (symbol-name (line_bytes r.bytes) s is (in-line r.bytes)) }, rest.each);
            fresh = (not-met (is_named earlier s.place) right.1, rest.fresh);
          } in
          let list : symbols_of (r ∷ rs) ≡ s ∷ symbols_of rs = rw is in
          subst (λ (ns : List Named). RightSymbols sizes earlier ns) (sym list) all
    ] in
    step (symbol_on r) refl m

equal-self : (k : ℕ) → nat_eq k k ≡ true
equal-self k = grind (arith, nat_tests)

same-self : (p : Place) → same_place p p ≡ true
same-self (places.Input k) = equal-self k
same-self (places.Latch k) = equal-self k
same-self (places.Output k) = equal-self k
same-self (places.Bad k) = equal-self k
same-self (places.Constraint k) = equal-self k

named-push : (ns : List Named) (n : Named) (p : Place) → is_named ns p ≡ true → is_named (ns ++ n ∷ []) p ≡ true
named-push ns n p h = is_named-push ns n p ∙ ap (λ t. t || same_place n.place p) h

named-last : (ns : List Named) (n : Named) → is_named (ns ++ n ∷ []) n.place ≡ true
named-last ns n =
    let either : (t : Bool) → (t || true) ≡ true = λ t. elim t as (λ v. (v || true) ≡ true) [ true ↦ refl | false ↦ refl ] in
    is_named-push ns n n.place ∙ ap (λ t. is_named ns n.place || t) (same-self n.place) ∙ either (is_named ns n.place)

names-apart : (m : Named) (earlier ns : List Named) → FreshNames earlier ns → is_named earlier m.place ≡ true → AllByRecursion (λ (n : Named). m.place ≢ n.place) ns
names-apart m earlier [] f h = tt
names-apart m earlier (n ∷ ns) f h =
    let new : is_named earlier n.place ≡ false = f.0 in
    ((λ s. let again : is_named earlier n.place ≡ true = ap (is_named earlier) (sym s) ∙ h in cc), names-apart m (earlier ++ n ∷ []) ns f.1 (named-push earlier n m.place h))

pub names-once : (earlier ns : List Named) → FreshNames earlier ns → AllPairs (λ (m n : Named). m.place ≢ n.place) ns
names-once earlier [] f = λ i j d order within. absurd (omega arith)
names-once earlier (n ∷ ns) f =
    AllPairs-cons (λ (m n : Named). m.place ≢ n.place) n ns (All-from_recursion (λ (x : Named). n.place ≢ x.place) ns (names-apart n (earlier ++ n ∷ []) ns f.1 (named-last earlier n))) (names-once (earlier ++ n ∷ []) ns f.1)

-- ---- the names of parts

-- the parts have so many items
pub record HasSizes (s : Sizes) (c : Parts) : Type 0 where
  pub inputs : length c.inputs ≡ s.inputs
  pub latches : length c.latches ≡ s.latches
  pub outputs : length c.outputs ≡ s.outputs
  pub bads : length c.bads ≡ s.bads
  pub constraints : length c.constraints ≡ s.constraints

item-exists : (s : Sizes) (c : Parts) (p : Place) → HasSizes s c → exists_in s p ≡ true → Exists c p
item-exists s c (places.Input k) has e = omega (arith, has.inputs, below k s.inputs e)
item-exists s c (places.Latch k) has e = omega (arith, has.latches, below k s.latches e)
item-exists s c (places.Output k) has e = omega (arith, has.outputs, below k s.outputs e)
item-exists s c (places.Bad k) has e = omega (arith, has.bads, below k s.bads e)
item-exists s c (places.Constraint k) has e = omega (arith, has.constraints, below k s.constraints e)

-- symbols of which all is met name items that there are, each once
pub right-names : {K : Type 0} (kind : SharedKind → K) (s : Sizes) (c : Parts) (lines : List Rest) → HasSizes s c → c.names ≡ symbols_of lines → first_unmet (symbol_demands kind s [] lines) ≡ None → AreNames c
right-names kind s c lines has names m =
    let right = right-symbols kind s [] lines m in
    let each : AllByRecursion (RightSymbol s) c.names = subst (λ (ns : List Named). AllByRecursion (RightSymbol s) ns) (sym names) right.each in
    record {
      exist = All-from_recursion (λ (n : Named). Exists c n.place) c.names (each-weaker (RightSymbol s) (λ (n : Named). Exists c n.place) (λ n x. item-exists s c n.place has x.exists) c.names each);
      once = names-once [] c.names (subst (λ (ns : List Named). FreshNames [] ns) (sym names) right.fresh);
      forms = All-from_recursion (λ (n : Named). IsName n.name) c.names (each-weaker (RightSymbol s) (λ (n : Named). IsName n.name) (λ n x. x.name) c.names each);
    }
