-- The sections of a text, one after another.
use Rattle.std.proofs.Common.{◌≡◌, ℕ, ◌||◌, List, [], ◌∷◌, ◌++◌, map, None, refl, sym, ap, ◌∙◌, subst, append_assoc}
use Rattle.std.proofs.lemmas.List.{map-append, append-nil}
use Rattle.aig_model.specs.WellFormed.{latch_lits, left_sides, definers}
use Rattle.aig_model.specs.declared.parts.Latch.{Latch}
use Rattle.aig_model.specs.declared.parts.AndGate.{AndGate}
use Rattle.text_words.specs.Text.{Rest, number, lines_of, after_lines}
use Rattle.aig_ascii.specs.Sections.{Form, input, latch, plain, gate, number_at, latch_of, gate_of, lits_of, section_demands, section_uses, use_demands, defines, is_known}
use Rattle.aig_ascii.specs.Drafts.{Draft, definers_of, use_of, pending_demands, Covers, StandFor}
use Rattle.aig_ascii.specs.FirstFaults.{first_unmet, Fails}
use Rattle.aig_ascii.specs.Demands.{Demand, demand}
use Rattle.aig_ascii.specs.Aag.{Layout, layout_from, parts_in, uses_in, body_demands}
use Rattle.aig_ascii.specs.ReadSections.{IsSections}
use Rattle.aig_ascii.specs.declared.reading.Sections.{Sections}
use Rattle.aig_ascii.specs.declared.fault.Fault.{Fault}
use Rattle.aig_ascii.specs.declared.fault.AagKind.{AagKind}
use Rattle.aig_ascii.specs.declared.fault.AagKind.TheVariants.{Undefined}
use Rattle.aig_ascii.specs.declared.draft.Use.{Use}
use Rattle.aig_ascii.specs.declared.header.Sizes.{Sizes}
use Rattle.aig_ascii.proofs.FirstFaults.{Unmet, fails-front, first_unmet-behind}
use Rattle.aig_ascii.proofs.Uses.{stand-append, stand-covers}
use Rattle.aig_ascii.proofs.Defined.{defines-append}

-- the literals of the lines of latches
pub latch_lits-lines : (lines : List Rest) → latch_lits (map latch_of lines) ≡ map (λ line. number_at line 0) lines
latch_lits-lines [] = refl
latch_lits-lines (r ∷ rs) = ap (λ ls. number_at r 0 ∷ ls) (latch_lits-lines rs)

abbrev pub draft_of : ℕ → List ℕ → List Latch → List AndGate → List Use → Draft
draft_of top inputs latches gates pending = record { top = top; inputs = inputs; latches = latches; gates = gates; pending = pending }

-- ---- what the sections define

abbrev pub inputs_in : Layout → List ℕ
inputs_in l = lits_of l.sizes.inputs l.inputs

abbrev pub latches_in : Layout → List Latch
latches_in l = map latch_of (lines_of l.sizes.latches l.latches)

abbrev pub both_in : Layout → List ℕ
both_in l = inputs_in l ++ lits_of l.sizes.latches l.latches

abbrev pub gates_in : Layout → List AndGate
gates_in l = map gate_of (lines_of l.sizes.gates l.gates)

-- ---- what is known where some sections have been read

-- what the draft holds, which literals it defines, where the cursor stands, the uses so far, and what is still asked
pub record Known (l : Layout) (inputs : List ℕ) (latches : List Latch) (gates : List AndGate) (earlier : List ℕ) (uses : List Rest) (at : Rest) (left : List (Demand AagKind)) (d : Draft) (x : Rest) : Type 0 where
  pub draft : d ≡ draft_of l.sizes.top inputs latches gates d.pending
  pub defined : definers_of d ≡ earlier
  pub place : x ≡ at
  pub stand : StandFor (definers_of d) d.pending (map use_of uses)
  pub asked : first_unmet (body_demands l) ≡ first_unmet left

-- what a section is asked, by what is known before it
section-asked : {l : Layout} {inputs : List ℕ} {latches : List Latch} {gates : List AndGate} {earlier : List ℕ} {uses : List Rest} {at : Rest} {left : List (Demand AagKind)} {d : Draft} {x : Rest} → (form : Form) (n : ℕ)
    → Known l inputs latches gates earlier uses at left d x → section_demands form n d.top (definers_of d) x ≡ section_demands form n l.sizes.top earlier at
section-asked {l} {earlier = earlier} {d = d} {x = x} form n k =
    ap (λ (t : ℕ). section_demands form n t (definers_of d) x) (ap (λ (e : Draft). e.top) k.draft)
    ∙ ap (λ ls. section_demands form n l.sizes.top ls x) k.defined
    ∙ ap (section_demands form n l.sizes.top earlier) k.place

-- a fault of the next section is the first
pub section-faulty : {l : Layout} {inputs : List ℕ} {latches : List Latch} {gates : List AndGate} {earlier : List ℕ} {uses : List Rest} {at : Rest} {d : Draft} {x : Rest} → (form : Form) (n : ℕ) (more : List (Demand AagKind))
    (e : Fault AagKind) → Known l inputs latches gates earlier uses at (section_demands form n l.sizes.top earlier at ++ more) d x
    → Fails e (first_unmet (section_demands form n d.top (definers_of d) x)) → Fails e (first_unmet (body_demands l))
section-faulty {l} {earlier = earlier} {at = at} form n more e k f =
    let section = section_demands form n l.sizes.top earlier at in
    subst (λ (o : Unmet AagKind). Fails e o) (sym k.asked) (fails-front e section more (subst (λ ds. Fails e (first_unmet ds)) (section-asked form n k) f))

-- and where it has none, the sections behind it are asked
section-right : {l : Layout} {inputs : List ℕ} {latches : List Latch} {gates : List AndGate} {earlier : List ℕ} {uses : List Rest} {at : Rest} {d : Draft} {x : Rest} → (form : Form) (n : ℕ) (more : List (Demand AagKind))
    → Known l inputs latches gates earlier uses at (section_demands form n l.sizes.top earlier at ++ more) d x
    → first_unmet (section_demands form n d.top (definers_of d) x) ≡ None → first_unmet (body_demands l) ≡ first_unmet more
section-right {l} {earlier = earlier} {at = at} form n more k met =
    k.asked ∙ first_unmet-behind (section_demands form n l.sizes.top earlier at) more (ap first_unmet (sym (section-asked form n k)) ∙ met)

-- ---- what is asked from each section on

abbrev pub asked_at_gates : Layout → List (Demand AagKind)
asked_at_gates l = section_demands gate l.sizes.gates l.sizes.top (both_in l) l.gates ++ []

abbrev pub asked_at_constraints : Layout → List (Demand AagKind)
asked_at_constraints l = section_demands plain l.sizes.constraints l.sizes.top (both_in l) l.constraints ++ asked_at_gates l

abbrev pub asked_at_bads : Layout → List (Demand AagKind)
asked_at_bads l = section_demands plain l.sizes.bads l.sizes.top (both_in l) l.bads ++ asked_at_constraints l

abbrev pub asked_at_outputs : Layout → List (Demand AagKind)
asked_at_outputs l = section_demands plain l.sizes.outputs l.sizes.top (both_in l) l.outputs ++ asked_at_bads l

abbrev pub asked_at_latches : Layout → List (Demand AagKind)
asked_at_latches l = section_demands latch l.sizes.latches l.sizes.top (inputs_in l) l.latches ++ asked_at_outputs l

abbrev pub asked_at_inputs : Layout → List (Demand AagKind)
asked_at_inputs l = section_demands input l.sizes.inputs l.sizes.top [] l.inputs ++ asked_at_latches l

-- ---- from section to section

-- a draft that defines more covers the earlier one
more-defined : (d new : Draft) (lits others : List ℕ) → definers_of d ≡ lits → definers_of new ≡ lits ++ others → Covers (definers_of new) (definers_of d)
more-defined d new lits others before now v h =
    ap (λ ls. defines ls v) now ∙ defines-append lits others v ∙ ap (λ t. t || defines others v) (ap (λ ls. defines ls v) (sym before) ∙ h)

-- the uses of a section, behind those before it
stand-behind : (uses read fields : List Rest) (d new : Draft) → StandFor (definers_of d) d.pending (map use_of uses) → Covers (definers_of new) (definers_of d)
    → StandFor (definers_of new) new.pending (d.pending ++ map use_of read) → read ≡ fields → StandFor (definers_of new) new.pending (map use_of (uses ++ fields))
stand-behind uses read fields d new old covers stand same =
    subst (λ (us : List Use). StandFor (definers_of new) new.pending us) (ap (λ fs. map use_of uses ++ map use_of fs) same ∙ sym (map-append use_of uses fields))
    (stand-append (definers_of new) (map use_of uses) d.pending new.pending (map use_of read) (stand-covers (definers_of d) (definers_of new) d.pending (map use_of uses) covers old) stand)

pub before-inputs : (l : Layout) (d : Draft) → d ≡ draft_of l.sizes.top [] [] [] [] → Known l [] [] [] [] [] l.inputs (asked_at_inputs l) d l.inputs
before-inputs l d empty =
    let s = l.sizes in
    let gates = section_demands gate s.gates s.top (both_in l) l.gates in
    let front = section_demands input s.inputs s.top [] l.inputs in
    let latches = section_demands latch s.latches s.top (inputs_in l) l.latches in
    let plain_ones : ℕ → Rest → List (Demand AagKind) = λ n r. section_demands plain n s.top (both_in l) r in
    record {
      draft = empty ∙ ap (λ us. draft_of s.top [] [] [] us) (sym (ap (λ (e : Draft). e.pending) empty));
      defined = ap definers_of empty;
      place = refl;
      stand = λ all covers. ap (λ (e : Draft). first_unmet (pending_demands all e.pending)) empty;
      asked =
          ap first_unmet
          (ap (λ ds. front ++ (latches ++ (plain_ones s.outputs l.outputs ++ (plain_ones s.bads l.bads ++ (plain_ones s.constraints l.constraints ++ ds))))) (sym (append-nil gates)));
    }

pub behind-lits : {l : Layout} {uses : List Rest} {at : Rest} {d new : Draft} {x y : Rest} → (n : ℕ) (more : List (Demand AagKind))
    → Known l (inputs_in l) (latches_in l) [] (both_in l) uses at (section_demands plain n l.sizes.top (both_in l) at ++ more) d x → first_unmet (section_demands plain n d.top (definers_of d) x) ≡ None
    → new ≡ record d { pending = new.pending } → StandFor (definers_of new) new.pending (d.pending ++ map use_of (section_uses plain n x)) → y ≡ after_lines n x
    → Known l (inputs_in l) (latches_in l) [] (both_in l) (uses ++ section_uses plain n at) (after_lines n at) more new y
behind-lits {l} {uses} {at} {d} {new} {x} n more k met read stand next =
    let defined : definers_of new ≡ both_in l = ap definers_of read ∙ k.defined in
    record {
      draft = read ∙ ap (λ (e : Draft). record e { pending = new.pending }) k.draft;
      defined = defined;
      place = next ∙ ap (after_lines n) k.place;
      stand = stand-behind uses (section_uses plain n x) (section_uses plain n at) d new k.stand (more-defined d new (both_in l) [] k.defined (defined ∙ sym (append-nil (both_in l)))) stand (ap (section_uses plain n) k.place);
      asked = section-right plain n more k met;
    }

-- the sections that define, in a text that goes on so behind its header
module _ (s : Sizes) (start : Rest) where
  abbrev l : Layout
  l = layout_from s start

  pub behind-inputs : {d new : Draft} {y : Rest} → d ≡ draft_of l.sizes.top [] [] [] [] → first_unmet (section_demands input l.sizes.inputs d.top (definers_of d) l.inputs) ≡ None
      → new ≡ record d { inputs = d.inputs ++ lits_of l.sizes.inputs l.inputs } → y ≡ after_lines l.sizes.inputs l.inputs → Known l (inputs_in l) [] [] (inputs_in l) [] l.latches (asked_at_latches l) new y
  behind-inputs {d} {new} empty met read next =
      let pending : new.pending ≡ [] = ap (λ (e : Draft). e.pending) read ∙ ap (λ (e : Draft). e.pending) empty in
      let draft : new ≡ draft_of l.sizes.top (inputs_in l) [] [] new.pending = read ∙ ap (λ (e : Draft). record e { inputs = e.inputs ++ lits_of l.sizes.inputs l.inputs }) empty
      ∙ ap (λ us. draft_of l.sizes.top (inputs_in l) [] [] us) (sym pending) in
      record {
        draft = draft;
        defined = ap definers_of draft ∙ append-nil (inputs_in l);
        place = next;
        stand = λ all covers. ap (λ us. first_unmet (pending_demands all us)) pending;
        asked = section-right input l.sizes.inputs (asked_at_latches l) (before-inputs l d empty) met;
      }

  pub behind-latches : {d new : Draft} {x y : Rest} → Known l (inputs_in l) [] [] (inputs_in l) [] l.latches (asked_at_latches l) d x
      → first_unmet (section_demands latch l.sizes.latches d.top (definers_of d) x) ≡ None
      → new ≡ record d { latches = d.latches ++ map latch_of (lines_of l.sizes.latches x); pending = new.pending }
      → StandFor (definers_of new) new.pending (d.pending ++ map use_of (section_uses latch l.sizes.latches x)) → y ≡ after_lines l.sizes.latches x
      → Known l (inputs_in l) (latches_in l) [] (both_in l) (section_uses latch l.sizes.latches l.latches) l.outputs (asked_at_outputs l) new y
  behind-latches {d} {new} {x} k met read stand next =
      let n = l.sizes.latches in
      let draft : new ≡ draft_of l.sizes.top (inputs_in l) (latches_in l) [] new.pending = read ∙ ap (λ (e : Draft). record e { latches = e.latches ++ map latch_of (lines_of n x); pending = new.pending }) k.draft
      ∙ ap (λ (z : Rest). draft_of l.sizes.top (inputs_in l) (map latch_of (lines_of n z)) [] new.pending) k.place in
      let defined : definers_of new ≡ both_in l = ap definers_of draft ∙ ap (λ ls. inputs_in l ++ ls) (append-nil (latch_lits (latches_in l)) ∙ latch_lits-lines (lines_of n l.latches)) in
      record {
        draft = draft;
        defined = defined;
        place = next ∙ ap (after_lines n) k.place;
        stand = stand-behind [] (section_uses latch n x) (section_uses latch n l.latches) d new k.stand (more-defined d new (inputs_in l) (lits_of n l.latches) k.defined defined) stand (ap (section_uses latch n) k.place);
        asked = section-right latch n (asked_at_outputs l) k met;
      }

  pub behind-gates : {uses : List Rest} {d new : Draft} {x y : Rest} → Known l (inputs_in l) (latches_in l) [] (both_in l) uses l.gates (asked_at_gates l) d x
      → first_unmet (section_demands gate l.sizes.gates d.top (definers_of d) x) ≡ None → new ≡ record d { gates = d.gates ++ map gate_of (lines_of l.sizes.gates x); pending = new.pending }
      → StandFor (definers_of new) new.pending (d.pending ++ map use_of (section_uses gate l.sizes.gates x)) → y ≡ after_lines l.sizes.gates x
      → Known l (inputs_in l) (latches_in l) (gates_in l) (both_in l ++ left_sides (gates_in l)) (uses ++ section_uses gate l.sizes.gates l.gates) l.symbols [] new y
  behind-gates {uses} {d} {new} {x} k met read stand next =
      let n = l.sizes.gates in
      let draft : new ≡ draft_of l.sizes.top (inputs_in l) (latches_in l) (gates_in l) new.pending = read ∙ ap (λ (e : Draft). record e { gates = e.gates ++ map gate_of (lines_of n x); pending = new.pending }) k.draft
      ∙ ap (λ (z : Rest). draft_of l.sizes.top (inputs_in l) (latches_in l) (map gate_of (lines_of n z)) new.pending) k.place in
      let defined : definers_of new ≡ both_in l ++ left_sides (gates_in l) = ap definers_of draft ∙ sym (append_assoc (inputs_in l) (latch_lits (latches_in l)) (left_sides (gates_in l)))
      ∙ ap (λ ls. (inputs_in l ++ ls) ++ left_sides (gates_in l)) (latch_lits-lines (lines_of l.sizes.latches l.latches)) in
      record {
        draft = draft;
        defined = defined;
        place = next ∙ ap (after_lines n) k.place;
        stand = stand-behind uses (section_uses gate n x) (section_uses gate n l.gates) d new k.stand (more-defined d new (both_in l) (left_sides (gates_in l)) k.defined defined) stand (ap (section_uses gate n) k.place);
        asked = section-right gate n [] k met;
      }

-- the uses of five sections, in either grouping
pub grouped : (a b c d e : List Rest) → ((((a ++ b) ++ c) ++ d) ++ e) ≡ a ++ (b ++ (c ++ (d ++ e)))
grouped a b c d e = append_assoc ((a ++ b) ++ c) d e ∙ append_assoc (a ++ b) c (d ++ e) ∙ append_assoc a b (c ++ (d ++ e))

-- ---- the uses, once everything is defined

uses-demands : (lits : List ℕ) (fs : List Rest) → pending_demands lits (map use_of fs) ≡ use_demands lits fs
uses-demands lits [] = refl
uses-demands lits (f ∷ fs) = ap (λ ds. demand f.at Undefined (is_known lits (number f)) ∷ ds) (uses-demands lits fs)

pub uses-checked : (l : Layout) (x : Sections) → IsSections l x → first_unmet (pending_demands (definers_of x.draft) x.draft.pending) ≡ first_unmet (use_demands (definers (parts_in l)) (uses_in l))
uses-checked l x k =
    let lits = definers_of x.draft in
    let same : lits ≡ definers (parts_in l) = ap (λ is. is ++ (latch_lits x.draft.latches ++ left_sides x.draft.gates)) k.inputs
    ∙ ap (λ ls. lits_of l.sizes.inputs l.inputs ++ (latch_lits ls ++ left_sides x.draft.gates)) k.latches
    ∙ ap (λ gs. lits_of l.sizes.inputs l.inputs ++ (latch_lits (map latch_of (lines_of l.sizes.latches l.latches)) ++ left_sides gs)) k.gates in
    k.uses lits (λ v h. h) ∙ ap first_unmet (uses-demands lits (uses_in l)) ∙ ap (λ ls. first_unmet (use_demands ls (uses_in l))) same
