-- A section's lines, one after another.
use Rattle.std.proofs.Common.{◌≡◌, ℕ, zero, suc, is_some, ◌+◌, ◌-◌, ◌*◌, ◌%◌, ◌<◌, Bool, true, false, not, ◌&&◌, ◌||◌, nat_eq, eqb, nat_le, None, List, [], ◌∷◌, ◌++◌, map, drop, refl, sym, ap, ◌∙◌, subst, append_assoc, arith}
use Rattle.std.proofs.lemmas.List.{map-append, append-nil}
use Rattle.aig_model.specs.Literal.{var}
use Rattle.text_words.specs.Text.{Rest, word, fields, number, next_line, lines_of, after_lines}
use Rattle.aig_ascii.specs.Demands.{demand}
use Rattle.aig_ascii.specs.Fields.{optional, want_demands, wants_demands, none_demands, line_demands}
use Rattle.aig_ascii.specs.Sections.{Form, input, latch, plain, gate, defines, defining, literal, is_reset, wants_of, defined_by, used_by, section_demands, section_uses, number_at}
use Rattle.aig_ascii.specs.Drafts.{Draft, definers_of, Covers, use_of, StandFor, pending_demands}
use Rattle.aig_ascii.specs.FirstFaults.{first_unmet, Fails}
use Rattle.aig_ascii.specs.declared.draft.Use.{Use}
use Rattle.aig_ascii.specs.declared.fault.Fault.{Fault}
use Rattle.aig_ascii.specs.declared.fault.AagKind.TheVariants.{Number, Range, Defined}
use Rattle.aig_model.specs.WellFormed.{latch_lits, left_sides}
use Rattle.aig_model.specs.declared.parts.Latch.{Latch}
use Rattle.aig_model.specs.declared.parts.AndGate.{AndGate}
use Rattle.std.specs.List.{flat_map}
use Rattle.aig_ascii.proofs.Defined.{defines-append, defines-between, defines-more}
use Rattle.aig_ascii.proofs.FirstFaults.{Unmet, first_unmet-behind, fails-front}
use Rattle.aig_ascii.proofs.Uses.{stand-front}
use Rattle.text_words.specs.Numbers.{natural_of}
use Rattle.aig_ascii.specs.Kinds.{aag_kind}
use Rattle.aig_ascii.specs.declared.fault.AagKind.{AagKind}

-- ---- the first of n lines, and the others
less-one : (n : ℕ) → n ≡ suc n - 1
less-one n = omega arith

pub section-step : (form : Form) (n top : ℕ) (e : List ℕ) (r : Rest) → 0 < n
    → section_demands form n top e r ≡ line_demands aag_kind (wants_of form top e r) r ++ section_demands form (n - 1) top (e ++ defined_by form r) (next_line r)
section-step form zero top e r h = absurd (omega arith)
section-step form (suc n) top e r h = ap (λ k. line_demands aag_kind (wants_of form top e r) r ++ section_demands form k top (e ++ defined_by form r) (next_line r)) (less-one n)

pub lines-step : (n : ℕ) (r : Rest) → 0 < n → lines_of n r ≡ r ∷ lines_of (n - 1) (next_line r)
lines-step zero r h = absurd (omega arith)
lines-step (suc n) r h = ap (λ k. r ∷ lines_of k (next_line r)) (less-one n)

pub after-step : (n : ℕ) (r : Rest) → 0 < n → after_lines n r ≡ after_lines (n - 1) (next_line r)
after-step zero r h = absurd (omega arith)
after-step (suc n) r h = ap (λ k. after_lines k (next_line r)) (less-one n)

-- ---- what is asked depends on what earlier lines define, and not on their order

abbrev pub SameDefined : List ℕ → List ℕ → Type 0
SameDefined d e = (v : ℕ) → defines d v ≡ defines e v

defining-same : (r : Rest) (top : ℕ) (d e : List ℕ) (fs : List Rest) → SameDefined d e → want_demands aag_kind r (defining top d) fs ≡ want_demands aag_kind r (defining top e) fs
defining-same r top d e [] same = refl
defining-same r top d e (f ∷ fs) same =
    let n = number f in
    ap (λ t. demand f.at Number (is_some (natural_of (word f.bytes))) ∷ demand f.at Range (nat_le n (2 * top + 1)) ∷ demand f.at Defined (nat_eq (n % 2) 0 && nat_le 2 n && not t) ∷ []) (same (var n))

line-same : (form : Form) (r : Rest) (top : ℕ) (d e : List ℕ) → SameDefined d e → line_demands aag_kind (wants_of form top d r) r ≡ line_demands aag_kind (wants_of form top e r) r
line-same input r top d e same = ap (λ ds. (ds ++ []) ++ none_demands aag_kind (drop 1 (fields r))) (defining-same r top d e (fields r) same)
line-same latch r top d e same = ap (λ ds. (ds ++ wants_demands aag_kind r (drop 1 (fields r)) (literal aag_kind top ∷ optional (is_reset aag_kind (number_at r 0) ∷ []) ∷ [])) ++ none_demands aag_kind (drop 3 (fields r))) (defining-same r top d e (fields r) same)
line-same plain r top d e same = refl
line-same gate r top d e same = ap (λ ds. (ds ++ wants_demands aag_kind r (drop 1 (fields r)) (literal aag_kind top ∷ literal aag_kind top ∷ [])) ++ none_demands aag_kind (drop 3 (fields r))) (defining-same r top d e (fields r) same)

same-append : (d e l : List ℕ) → SameDefined d e → SameDefined (d ++ l) (e ++ l)
same-append d e l same v = defines-append d l v ∙ ap (λ t. t || defines l v) (same v) ∙ sym (defines-append e l v)

pub section-same : (form : Form) (n top : ℕ) (d e : List ℕ) (r : Rest) → SameDefined d e → section_demands form n top d r ≡ section_demands form n top e r
section-same form zero top d e r same = refl
section-same form (suc n) top d e r same =
    ap (λ ds. ds ++ section_demands form n top (d ++ defined_by form r) (next_line r)) (line-same form r top d e same)
    ∙ ap (λ ds. line_demands aag_kind (wants_of form top e r) r ++ ds) (section-same form n top (d ++ defined_by form r) (e ++ defined_by form r) (next_line r) (same-append d e (defined_by form r) same))

-- ---- a section, of which a line is read

pub section-fails : (form : Form) (n top : ℕ) (e : List ℕ) (r : Rest) (fault : Fault AagKind) (o : Unmet AagKind) → first_unmet (section_demands form n top e r) ≡ o → 0 < n
    → Fails fault (first_unmet (line_demands aag_kind (wants_of form top e r) r)) → Fails fault o
section-fails form n top e r fault o is h f =
    subst (λ (x : Unmet AagKind). Fails fault x) (sym (ap first_unmet (section-step form n top e r h)) ∙ is)
    (fails-front fault (line_demands aag_kind (wants_of form top e r) r) (section_demands form (n - 1) top (e ++ defined_by form r) (next_line r)) f)

pub section-goes : (form : Form) (n top top' : ℕ) (e e' : List ℕ) (r s : Rest) (o : Unmet AagKind) → first_unmet (section_demands form n top e r) ≡ o → 0 < n
    → first_unmet (line_demands aag_kind (wants_of form top e r) r) ≡ None → top' ≡ top → SameDefined (e ++ defined_by form r) e' → s ≡ next_line r
    → first_unmet (section_demands form (n - 1) top' e' s) ≡ o
section-goes form n top top' e e' r s o is h met same_top same next =
    ap (λ t. first_unmet (section_demands form (n - 1) t e' s)) same_top
    ∙ ap (λ x. first_unmet (section_demands form (n - 1) top e' x)) next
    ∙ sym (ap first_unmet (section-same form (n - 1) top (e ++ defined_by form r) e' (next_line r) same))
    ∙ sym (first_unmet-behind (line_demands aag_kind (wants_of form top e r) r) (section_demands form (n - 1) top (e ++ defined_by form r) (next_line r)) met)
    ∙ sym (ap first_unmet (section-step form n top e r h))
    ∙ is

pub uses-go : (form : Form) (n : ℕ) (r s : Rest) (lits lits' : List ℕ) (pending pending' all : List Use) → StandFor lits (pending ++ map use_of (section_uses form n r)) all → 0 < n
    → StandFor lits pending' (pending ++ map use_of (used_by form r)) → Covers lits' lits → s ≡ next_line r → StandFor lits' (pending' ++ map use_of (section_uses form (n - 1) s)) all
uses-go form n r s lits lits' pending pending' all stand h noted covers next every c =
    let x = map use_of (used_by form r) in
    let y = map use_of (section_uses form (n - 1) (next_line r)) in
    let known : Covers every lits = λ v d. c v (covers v d) in
    let uses : map use_of (section_uses form n r) ≡ x ++ y = ap (λ ls. map use_of (flat_map (used_by form) ls)) (lines-step n r h) ∙ map-append use_of (used_by form r) (section_uses form (n - 1) (next_line r)) in
    ap (λ t. first_unmet (pending_demands every (pending' ++ map use_of (section_uses form (n - 1) t)))) next
    ∙ stand-front lits pending' (pending ++ x) y noted every known
    ∙ ap (λ us. first_unmet (pending_demands every us)) (append_assoc pending x y ∙ ap (λ us. pending ++ us) (sym uses))
    ∙ stand every known

pub uses-end : (form : Form) (n : ℕ) (r : Rest) (lits : List ℕ) (pending all : List Use) → StandFor lits (pending ++ map use_of (section_uses form n r)) all → n ≡ 0 → StandFor lits pending all
uses-end form n r lits pending all stand none every covers =
    ap (λ us. first_unmet (pending_demands every us)) (sym (append-nil pending) ∙ ap (λ k. pending ++ map use_of (section_uses form k r)) (sym none)) ∙ stand every covers

-- ---- one more literal is defined

pub same-more : (d e : List ℕ) (lit : ℕ) → ((v : ℕ) → defines e v ≡ (eqb (var lit) v || defines d v)) → SameDefined (d ++ lit ∷ []) e
same-more d e lit all v =
    ap (λ xs. defines xs v) (sym (append-nil (d ++ lit ∷ []))) ∙ defines-between d [] lit v ∙ ap (λ xs. eqb (var lit) v || defines xs v) (append-nil d) ∙ sym (all v)

pub covers-more : (d e : List ℕ) (lit : ℕ) → ((v : ℕ) → defines e v ≡ (eqb (var lit) v || defines d v)) → Covers e d
covers-more d e lit all v h =
    let step : (t : Bool) → (t || true) ≡ true = λ t. elim t as (λ w. (w || true) ≡ true) [ true ↦ refl | false ↦ refl ] in
    all v ∙ ap (λ t. eqb (var lit) v || t) h ∙ step (eqb (var lit) v)

pub same-none : (d e : List ℕ) → ((v : ℕ) → defines e v ≡ defines d v) → SameDefined (d ++ []) e
same-none d e all v = ap (λ xs. defines xs v) (append-nil d) ∙ sym (all v)

pub covers-same : (d e : List ℕ) → ((v : ℕ) → defines e v ≡ defines d v) → Covers e d
covers-same d e all v h = all v ∙ h

-- the literals of a draft, after one of its lists has grown
pub input-more : (d : Draft) (lit v : ℕ) → defines (definers_of (record d { inputs = d.inputs ++ lit ∷ [] })) v ≡ (eqb (var lit) v || defines (definers_of d) v)
input-more d lit v = defines-between d.inputs (latch_lits d.latches ++ left_sides d.gates) lit v

pub latch-more : (d : Draft) (l : Latch) (v : ℕ) → defines (definers_of (record d { latches = d.latches ++ l ∷ [] })) v ≡ (eqb (var l.lit) v || defines (definers_of d) v)
latch-more d l v =
    ap (λ xs. defines (d.inputs ++ (xs ++ left_sides d.gates)) v) (map-append _ d.latches (l ∷ [])) ∙ defines-more d.inputs (latch_lits d.latches) (left_sides d.gates) l.lit v

pub gate-more : (d : Draft) (g : AndGate) (v : ℕ) → defines (definers_of (record d { gates = d.gates ++ g ∷ [] })) v ≡ (eqb (var g.lhs) v || defines (definers_of d) v)
gate-more d g v =
    let both = d.inputs ++ latch_lits d.latches in
    let sides = left_sides d.gates in
    ap (λ xs. defines (d.inputs ++ (latch_lits d.latches ++ xs)) v) (map-append _ d.gates (g ∷ []) ∙ sym (append-nil (sides ++ g.lhs ∷ [])))
    ∙ ap (λ xs. defines xs v) (sym (append_assoc d.inputs (latch_lits d.latches) ((sides ++ g.lhs ∷ []) ++ [])))
    ∙ defines-more both sides [] g.lhs v
    ∙ ap (λ xs. eqb (var g.lhs) v || defines xs v) (ap (λ xs. both ++ xs) (append-nil sides) ∙ append_assoc d.inputs (latch_lits d.latches) sides)

-- ---- the items of a section, of which one is read

pub items-go : {A : Type 0} (f : Rest → A) (n : ℕ) (r s : Rest) (xs xs' all : List A) → xs ++ map f (lines_of n r) ≡ all → 0 < n → xs' ≡ xs ++ f r ∷ [] → s ≡ next_line r
    → xs' ++ map f (lines_of (n - 1) s) ≡ all
items-go f n r s xs xs' all is h pushed next =
    ap (λ t. xs' ++ map f (lines_of (n - 1) t)) next
    ∙ ap (λ ys. ys ++ map f (lines_of (n - 1) (next_line r))) pushed
    ∙ append_assoc xs (f r ∷ []) (map f (lines_of (n - 1) (next_line r)))
    ∙ ap (λ ls. xs ++ map f ls) (sym (lines-step n r h))
    ∙ is

pub items-end : {A : Type 0} (f : Rest → A) (n : ℕ) (r : Rest) (xs all : List A) → xs ++ map f (lines_of n r) ≡ all → n ≡ 0 → xs ≡ all
items-end f n r xs all is none = sym (append-nil xs) ∙ ap (λ k. xs ++ map f (lines_of k r)) (sym none) ∙ is

pub after-go : (n : ℕ) (r s end : Rest) → after_lines n r ≡ end → 0 < n → s ≡ next_line r → after_lines (n - 1) s ≡ end
after-go n r s end is h next = ap (after_lines (n - 1)) next ∙ sym (after-step n r h) ∙ is
