-- The table of the names that are asked for, as it grows.
use Rattle.std.proofs.Common.{◌≡◌, ℕ, Bool, true, false, cond, Option, Some, None, IsSome, is_some, List, [], ◌∷◌, ◌++◌, refl, sym, ap, ◌∙◌, subst, inl, inr, append_assoc}
use Rattle.std.specs.Borrow.{Bor}
use Rattle.std.specs.Str.{bytes_eq}
use Rattle.std.proofs.lemmas.List.{append-nil}
use Rattle.std.proofs.lemmas.List.Elements.{Contains-push_cases}
use Rattle.std.proofs.lemmas.Slice.Eq.{bytes_eq-Decides}
use Rattle.indexmap.specs.IndexMap.{get_by}
use Rattle.text_words.specs.Lines.{lines}
use Rattle.aig_model.specs.declared.parts.Named.{Named}
use Rattle.signal_list.specs.declared.names.Owner.{Owner}
use Rattle.signal_list.specs.Names.{with_one_more, owner_of, Table, told, TellsOwners, IsAsked, AreAsked, KeepsNames}
use Rattle.signal_list.specs.SignalText.{trimmed}
use Rattle.signal_list.proofs.Forms.{some-some}
use Rattle.signal_list.proofs.Owners.{owner_of-push}

-- a name is put: the bytes equal to the key are told this, and others as before
abbrev pub Puts : {S : Type 0} → Table S → Table S → Bor (List ℕ) → Option Owner → Type 0
Puts old new key owner = (bytes : Bor (List ℕ)) → told new bytes ≡ cond (bytes_eq key.now bytes.now) (Some owner) (told old bytes)

pub put-keeps : {S : Type 0} (old new : Table S) (key : Bor (List ℕ)) (owner : Option Owner) → Puts old new key owner → KeepsNames old new
put-keeps old new key owner put bytes had = subst IsSome (sym (put bytes)) (at (bytes_eq key.now bytes.now))
  where
    at : (b : Bool) → IsSome (cond b (Some owner) (told old bytes))
    at true = refl
    at false = had

put-told : {S : Type 0} (old new : Table S) (key bytes : Bor (List ℕ)) (owner : Option Owner) → Puts old new key owner → key.now ≡ bytes.now → told new bytes ≡ Some owner
put-told old new key bytes owner put same =
    put bytes ∙ ap (λ (b : Bool). cond b (Some owner) (told old bytes)) ((bytes_eq-Decides key.now bytes.now).1 same)

-- ---- one symbol more

-- bytes that differ from a symbol's name have the owner that they had
other-owner : (names : List Named) (n : Named) (bytes : List ℕ) → bytes_eq n.name bytes ≡ false → owner_of (names ++ n ∷ []) bytes ≡ owner_of names bytes
other-owner names n bytes is = owner_of-push names n bytes ∙ ap (λ (b : Bool). cond b (Some (with_one_more (owner_of names n.name) n.place)) (owner_of names bytes)) is

pub symbol-skipped : {S : Type 0} (names : List Named) (n : Named) (table : Table S) (key : Bor (List ℕ)) → TellsOwners names table → key.now ≡ n.name → None ≡ told table key
    → TellsOwners (names ++ n ∷ []) table
symbol-skipped {S} names n table key tells is absent bytes owner e = at (bytes_eq n.name bytes.now) refl
  where
    at : (b : Bool) → bytes_eq n.name bytes.now ≡ b → owner ≡ owner_of (names ++ n ∷ []) bytes.now
    at true same =
        let now : key.now ≡ bytes.now = is ∙ (bytes_eq-Decides n.name bytes.now).0 same in
        let no : ◌≡◌ {A = Option (Option Owner)} None (Some owner) = absent ∙ ap (λ (bs : List ℕ). get_by (λ (k : Bor (List ℕ)). bytes_eq bs k.now) table) now ∙ e in
        cc
    at false other = tells bytes owner e ∙ sym (other-owner names n bytes.now other)

pub symbol-put : {S : Type 0} (names : List Named) (n : Named) (old new : Table S) (key : Bor (List ℕ)) (owner : Option Owner) → TellsOwners names old → key.now ≡ n.name → Some owner ≡ told old key
    → Puts old new key (Some (with_one_more owner n.place)) → TellsOwners (names ++ n ∷ []) new
symbol-put names n old new key owner tells is had put bytes result e = at (bytes_eq key.now bytes.now) refl
  where
    at : (b : Bool) → bytes_eq key.now bytes.now ≡ b → result ≡ owner_of (names ++ n ∷ []) bytes.now
    at true same =
        let now : n.name ≡ bytes.now = sym is ∙ (bytes_eq-Decides key.now bytes.now).0 same in
        let here : result ≡ Some (with_one_more owner n.place) = some-some result (Some (with_one_more owner n.place)) (sym e ∙ put bytes ∙ ap (λ (b : Bool). cond b (Some (Some (with_one_more owner n.place))) (told old bytes)) same) in
        let before : owner ≡ owner_of names n.name = tells key owner (sym had) ∙ ap (owner_of names) is in
        here
        ∙ ap (λ (o : Option Owner). Some (with_one_more o n.place)) before
        ∙ sym (owner_of-push names n bytes.now
        ∙ ap (λ (b : Bool). cond b (Some (with_one_more (owner_of names n.name) n.place)) (owner_of names bytes.now)) ((bytes_eq-Decides n.name bytes.now).1 now))
    at false other =
        let differ : bytes_eq n.name bytes.now ≡ false = ap (λ (bs : List ℕ). bytes_eq bs bytes.now) (sym is) ∙ other in
        let was : told old bytes ≡ Some result = sym (put bytes ∙ ap (λ (b : Bool). cond b (Some (Some (with_one_more owner n.place))) (told old bytes)) other) ∙ e in
        tells bytes result was ∙ sym (other-owner names n bytes.now differ)

-- ---- one line more

-- the names of the lines up to here are in the table, with no owner, and the rest is to come
pub record IsAskedUpTo {S : Type 0} (text : List ℕ) (rest : List (List ℕ)) (table : Table S) : Type 0 where
  pub done : List (List ℕ)
  pub parts : lines text ≡ done ++ rest
  pub asked : AreAsked done table
  pub none : TellsOwners [] table

one-more : {S : Type 0} (done : List (List ℕ)) (line : List ℕ) (table : Table S) → AreAsked done table → IsAsked (trimmed line) table → AreAsked (done ++ line ∷ []) table
one-more done line table asked here other h = elim (Contains-push_cases done line other h) as (λ _. IsAsked (trimmed other) table) [
  | inl earlier ↦ asked other earlier
  | inr same ↦ subst (λ (l : List ℕ). IsAsked (trimmed l) table) same here
]

pub line-skipped : {S : Type 0} (text line : List ℕ) (rest : List (List ℕ)) (table : Table S) → IsAskedUpTo text (line ∷ rest) table → ((name : List ℕ) → trimmed line ≡ 64 ∷ name → ⊥)
    → IsAskedUpTo text rest table
line-skipped text line rest table r other = record {
  done = r.done ++ line ∷ [];
  parts = r.parts ∙ sym (append_assoc r.done (line ∷ []) rest);
  asked = one-more r.done line table r.asked (λ bytes is. absurd (other bytes.now is));
  none = r.none;
}

tail-tail : (a b : List ℕ) → ◌≡◌ {A = List ℕ} (64 ∷ a) (64 ∷ b) → a ≡ b
tail-tail a b e = cc

pub line-put : {S : Type 0} (text line : List ℕ) (rest : List (List ℕ)) (old new : Table S) (name : Bor (List ℕ)) → IsAskedUpTo text (line ∷ rest) old → trimmed line ≡ 64 ∷ name.now
    → Puts old new name None → IsAskedUpTo text rest new
line-put text line rest old new name r is put =
    let keeps = put-keeps old new name None put in
    record {
      done = r.done ++ line ∷ [];
      parts = r.parts ∙ sym (append_assoc r.done (line ∷ []) rest);
      asked = one-more r.done line new (λ other h bytes at. keeps bytes (r.asked other h bytes at))
          (λ bytes at. ap is_some (put-told old new name bytes None put (tail-tail name.now bytes.now (sym is ∙ at))));
      none = λ bytes owner e. at bytes owner e (bytes_eq name.now bytes.now) refl;
    }
  where
    at : (bytes : Bor (List ℕ)) (owner : Option Owner) → told new bytes ≡ Some owner → (b : Bool) → bytes_eq name.now bytes.now ≡ b → owner ≡ None
    at bytes owner e true same = some-some owner None (sym e ∙ put bytes ∙ ap (λ (b : Bool). cond b (Some None) (told old bytes)) same)
    at bytes owner e false other = r.none bytes owner (sym (put bytes ∙ ap (λ (b : Bool). cond b (Some None) (told old bytes)) other) ∙ e)

pub all-asked : {S : Type 0} (text : List ℕ) (table : Table S) → IsAskedUpTo text [] table → AreAsked (lines text) table
all-asked text table r = subst (λ (ls : List (List ℕ)). AreAsked ls table) (sym (r.parts ∙ append-nil r.done)) r.asked

-- the same of an equal owner
pub put-rewritten : {S : Type 0} (old new : Table S) (key : Bor (List ℕ)) (a b : Owner) → Puts old new key (Some a) → a ≡ b → Puts old new key (Some b)
put-rewritten old new key a b put same = subst (λ (o : Owner). Puts old new key (Some o)) same put
