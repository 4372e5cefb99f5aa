-- Facts on a text, where it is told.
use Rattle.std.proofs.Common.{◌≡◌, ℕ, List, Option, Some, None, IfSome, subst}
use Rattle.run_io.specs.Desk.{DeskState}
use Rattle.cover_run.specs.Seen.{DeskSeen, seen, HasText}

pub IfSome-map : {A : Type 0} (P Q : A → Type 0) (o : Option A) → ((x : A) → P x → Q x) → IfSome o P → IfSome o Q
IfSome-map P Q None f h = tt
IfSome-map P Q (Some x) f h = f x h

pub IfSome-at : {A : Type 0} (P : A → Type 0) (o : Option A) (x : A) → o ≡ Some x → IfSome o P → P x
IfSome-at P None x e h = absurd cc
IfSome-at P (Some y) x e h = let same : y ≡ x = cc in subst P same h

-- the text of which something is true is the one that is told
pub text-at : (d : DeskSeen) (name t : List ℕ) (P : List ℕ → Type 0) → d.old.text name ≡ Some t → HasText d name P → P t
text-at d name t P told h = subst P (IfSome-at (λ (x : List ℕ). h.text ≡ x) (d.old.text name) t told h.told) h.has

-- the texts are those that were told before, whatever came after
pub text-by : (a b c : DeskState) (name : List ℕ) (P : List ℕ → Type 0) → HasText (seen a b) name P → HasText (seen a c) name P
text-by a b c name P h = record { text = h.text; told = h.told; has = h.has }
