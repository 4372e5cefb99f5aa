-- What the answer of an lrat command promises.
use Rattle.std.proofs.Common.{◌≡◌, ℕ, ◌<◌, ◌≤◌, Bool, List, length, Some, inl, inr, sym, ◌∙◌, ap, subst, arith}
use Rattle.std.specs.Prelude.{◌⊎◌}
use Rattle.std.proofs.lemmas.Option.{none-some}
use Rattle.cnf_base.specs.Meaning.{CnfFormula}
use Rattle.cnf_base.specs.Dimacs.{SpellsFormula, IsFirstFault as IsFirstInFormula}
use Rattle.cnf_base.specs.declared.fault.DimacsKind.{DimacsKind}
use Rattle.cnf_base.proofs.Whole as dimacs_text
use Rattle.lrat_text.specs.Lrat.{SpellsProof, IsFirstFault as IsFirstInProof}
use Rattle.lrat_text.specs.declared.fault.LratKind.{LratKind}
use Rattle.lrat_text.specs.declared.proof.LratStep.{LratStep}
use Rattle.lrat_text.proofs.Whole as lrat_text
use Rattle.lrat_text.specs.Accepted.{Accepted}
use Rattle.lrat_check.specs.FirstFault.{first_fault}
use Rattle.lrat_check.specs.declared.fault.ProofKind.{ProofKind}
use Rattle.lrat_check.proofs.Agreement.{accepted_without_fault}
use Rattle.lrat_check.proofs.Refutation.{accepted_refutes}
use Rattle.command_words.specs.declared.stop.File.TheVariants as files
use Rattle.command_words.specs.declared.stop.Refusal.TheVariants as refusals
use Rattle.command_words.specs.declared.stop.Stop.{Stop}
use Rattle.command_words.specs.declared.stop.Stop.TheVariants as stops
use Rattle.command_words.specs.declared.stop.Status.{Status}
use Rattle.cover_run.specs.Answer.{IsOutput, IsAnswer, Cause}
use Rattle.cover_run.specs.Checking.{formula_stop, IsFormulaText, IsProofText, HasFormulaFault, HasProofFault, HasFormula, HasProof, HasSomeFormula, IsLratOutput}
use Rattle.command_words.specs.Limits.{limit_of}
use Rattle.cover_run.specs.Files.{IsTooLong}
use Rattle.cover_run.specs.Promises.{IsTold, IsToldTooLong, Spells, IsUndisturbed, IsProved, AcceptedCause, AcceptedComes, BadFormulaComes, BadProofComes, BadStepComes, LongFormulaComes, LongProofComes}
use Rattle.cover_run.specs.Seen.{DeskSeen, SinkSeen, HasText, HasFaulted, Failed, Took}
use Rattle.command_words.specs.Stops.{status_of, settled_status}
use Rattle.command_words.specs.Words.{LratCall, Meaning, Lrat}
use Rattle.cover_run.proofs.WhereTold.{text-at}
use Rattle.cover_run.proofs.Promised.{told_long, not_ended, stopped_so}
use Rattle.cover_run.proofs.Stopped.{LratStops, formula_unreadable, formula_long, bad_formula, proof_unreadable, proof_long, bad_proof, bad_step, not_accepted_written, no_memory, lrat_stops}

lrat_output : (command : Meaning) (call : LratCall) (d : DeskSeen) (bytes : List ℕ) (settled : Bool) → command ≡ Lrat call → IsOutput command d bytes settled → IsLratOutput call d bytes settled
lrat_output command call d bytes settled e o = subst (λ (x : Meaning). IsOutput x d bytes settled) e o

stops_of : (command : Meaning) (call : LratCall) (d : DeskSeen) (out : SinkSeen) (stop : Stop) → command ≡ Lrat call → Cause command d out stop → LratStops call d out stop
stops_of command call d out stop e cause = lrat_stops call d out stop (subst (λ (x : Meaning). Cause x d out stop) e cause)

-- ---- the texts that are told are the ones meant
told_formula : (call : LratCall) (d : DeskSeen) (t : List ℕ) (f : CnfFormula) → d.old.text call.formula ≡ Some t → HasFormula call d f → IsFormulaText f t
told_formula call d t f told has = text-at d call.formula t (IsFormulaText f) told has

told_proof : (call : LratCall) (d : DeskSeen) (u : List ℕ) (p : List LratStep) → d.old.text call.proof ≡ Some u → HasProof call d p → IsProofText p u
told_proof call d u p told has = text-at d call.proof u (IsProofText p) told has

told_fault : (call : LratCall) (d : DeskSeen) (t : List ℕ) (line : ℕ) (kind : DimacsKind) → d.old.text call.formula ≡ Some t → HasText d call.formula (HasFormulaFault line kind)
    → HasFormulaFault line kind t
told_fault call d t line kind told has = text-at d call.formula t (HasFormulaFault line kind) told has

told_proof_fault : (call : LratCall) (d : DeskSeen) (u : List ℕ) (line : ℕ) (kind : LratKind) → d.old.text call.proof ≡ Some u → HasText d call.proof (HasProofFault line kind)
    → HasProofFault line kind u
told_proof_fault call d u line kind told has = text-at d call.proof u (HasProofFault line kind) told has

same_formula : (call : LratCall) (d : DeskSeen) (t : List ℕ) (f g : CnfFormula) → d.old.text call.formula ≡ Some t → SpellsFormula t f → HasFormula call d g → g ≡ f
same_formula call d t f g told spells has = dimacs_text.one-formula t g f (told_formula call d t g told has).spells spells

same_proof : (call : LratCall) (d : DeskSeen) (u : List ℕ) (p q : List LratStep) → d.old.text call.proof ≡ Some u → SpellsProof u p → HasProof call d q → q ≡ p
same_proof call d u p q told spells has = lrat_text.one-proof u q p (told_proof call d u q told has).spells spells

-- ---- the refusals of the formula come
-- a text with a first fault spells no formula
faulty : (call : LratCall) (d : DeskSeen) (t : List ℕ) (line : ℕ) (kind : DimacsKind) → d.old.text call.formula ≡ Some t → IsFirstInFormula t line kind → HasSomeFormula call d → ⊥
faulty call d t line kind told first (f, has) = dimacs_text.not-both t f line kind (told_formula call d t f told has).spells first

same_stop : (call : LratCall) (d : DeskSeen) (t : List ℕ) (m n : ℕ) (k l : DimacsKind) → d.old.text call.formula ≡ Some t → IsFirstInFormula t n l
    → HasText d call.formula (HasFormulaFault m k) → formula_stop m k ≡ formula_stop n l
same_stop call d t m n k l told first has =
    let same = dimacs_text.one-fault t m n k l (told_fault call d t m k told has).first first in
    ap (λ (x : ℕ). formula_stop x k) same.0 ∙ ap (λ (x : DimacsKind). formula_stop n x) same.1

bad_formula_stops : (call : LratCall) (d : DeskSeen) (out : SinkSeen) (stop : Stop) (t : List ℕ) (line : ℕ) (kind : DimacsKind) → IsTold d files.Formula call.formula t
    → IsFirstInFormula t line kind → LratStops call d out stop → (stop ≡ formula_stop line kind) ⊎ (stop ≡ stops.OutOfMemory)
bad_formula_stops call d out stop t line kind told first (formula_unreadable e h) = absurd (told.no_fault h)
bad_formula_stops call d out stop t line kind told first (formula_long e h) = absurd (told_long d files.Formula call.formula t told.told told.short h)
bad_formula_stops call d out stop t line kind told first (bad_formula m k e h) = inl (e ∙ same_stop call d t m line k kind told.told first h)
bad_formula_stops call d out stop t line kind told first (proof_unreadable e has h) = absurd (faulty call d t line kind told.told first has)
bad_formula_stops call d out stop t line kind told first (proof_long e has h) = absurd (faulty call d t line kind told.told first has)
bad_formula_stops call d out stop t line kind told first (bad_proof m k e has h) = absurd (faulty call d t line kind told.told first has)
bad_formula_stops call d out stop t line kind told first (bad_step m k e f p has has_proof h) = absurd (faulty call d t line kind told.told first (f, has))
bad_formula_stops call d out stop t line kind told first (not_accepted_written e h bytes settled o) = absurd (faulty call d t line kind told.told first (o.formula, o.has_formula))
bad_formula_stops call d out stop t line kind told first (no_memory e) = inr e

pub bad_formula_comes : (command : Meaning) (d : DeskSeen) (out err : SinkSeen) (status : Status) → IsAnswer command d out err status → BadFormulaComes command d err status
bad_formula_comes command d out err status (inl w) call t line kind e told first =
    let o = lrat_output command call d w.whole.bytes w.settled e w.whole.output in
    absurd (faulty call d t line kind told.told first (o.formula, o.has_formula))
bad_formula_comes command d out err status (inr s) call t line kind e told first =
    stopped_so command d out err status (formula_stop line kind) s (bad_formula_stops call d out s.stop t line kind told first (stops_of command call d out s.stop e s.stopped.cause))

past_limit : (d : DeskSeen) (name t : List ℕ) → IsToldTooLong d files.Formula name t → length t ≤ limit_of files.Formula → ⊥
past_limit d name t long short = let past : limit_of files.Formula < length t = long.long in omega arith

long_formula_stops : (call : LratCall) (d : DeskSeen) (out : SinkSeen) (stop : Stop) (t : List ℕ) → IsToldTooLong d files.Formula call.formula t → LratStops call d out stop
    → (stop ≡ stops.TooLong files.Formula) ⊎ (stop ≡ stops.OutOfMemory)
long_formula_stops call d out stop t long (formula_unreadable e h) = absurd (long.no_fault h)
long_formula_stops call d out stop t long (formula_long e h) = inl e
long_formula_stops call d out stop t long (bad_formula m k e h) = absurd (past_limit d call.formula t long (told_fault call d t m k long.told h).short)
long_formula_stops call d out stop t long (proof_unreadable e has h) = absurd (past_limit d call.formula t long (told_formula call d t has.0 long.told has.1).short)
long_formula_stops call d out stop t long (proof_long e has h) = absurd (past_limit d call.formula t long (told_formula call d t has.0 long.told has.1).short)
long_formula_stops call d out stop t long (bad_proof m k e has h) = absurd (past_limit d call.formula t long (told_formula call d t has.0 long.told has.1).short)
long_formula_stops call d out stop t long (bad_step m k e f p has has_proof h) = absurd (past_limit d call.formula t long (told_formula call d t f long.told has).short)
long_formula_stops call d out stop t long (not_accepted_written e h bytes settled o) = absurd (past_limit d call.formula t long (told_formula call d t o.formula long.told o.has_formula).short)
long_formula_stops call d out stop t long (no_memory e) = inr e

pub long_formula_comes : (command : Meaning) (d : DeskSeen) (out err : SinkSeen) (status : Status) → IsAnswer command d out err status → LongFormulaComes command d err status
long_formula_comes command d out err status (inl w) call t e long =
    let o = lrat_output command call d w.whole.bytes w.settled e w.whole.output in
    absurd (past_limit d call.formula t long (told_formula call d t o.formula long.told o.has_formula).short)
long_formula_comes command d out err status (inr s) call t e long =
    stopped_so command d out err status (stops.TooLong files.Formula) s (long_formula_stops call d out s.stop t long (stops_of command call d out s.stop e s.stopped.cause))

-- ---- with a formula that is told and spelled, what is left
data ProofStops (call : LratCall) (d : DeskSeen) (out : SinkSeen) (f : CnfFormula) (stop : Stop) : Type 0 where
  unreadable : HasFaulted d call.proof → ProofStops call d out f stop
  long : stop ≡ stops.TooLong files.Proof → IsTooLong d files.Proof call.proof → ProofStops call d out f stop
  faulty_text : (line : ℕ) (kind : LratKind) → stop ≡ stops.Refused (refusals.Proof line kind) → HasText d call.proof (HasProofFault line kind) → ProofStops call d out f stop
  faulty_step : (step : ℕ) (kind : ProofKind) → stop ≡ stops.Refused (refusals.Step step kind) → (p : List LratStep) → HasProof call d p → first_fault f p ≡ Some (step, kind)
      → ProofStops call d out f stop
  written : Failed out → (p : List LratStep) → HasProof call d p → Accepted f p → ProofStops call d out f stop
  short_of_memory : stop ≡ stops.OutOfMemory → ProofStops call d out f stop

after_formula : (call : LratCall) (d : DeskSeen) (out : SinkSeen) (stop : Stop) (t : List ℕ) (f : CnfFormula) → IsTold d files.Formula call.formula t → SpellsFormula t f
    → LratStops call d out stop → ProofStops call d out f stop
after_formula call d out stop t f told spells (formula_unreadable e h) = absurd (told.no_fault h)
after_formula call d out stop t f told spells (formula_long e h) = absurd (told_long d files.Formula call.formula t told.told told.short h)
after_formula call d out stop t f told spells (bad_formula m k e h) = absurd (dimacs_text.not-both t f m k spells (told_fault call d t m k told.told h).first)
after_formula call d out stop t f told spells (proof_unreadable e has h) = unreadable h
after_formula call d out stop t f told spells (proof_long e has h) = long e h
after_formula call d out stop t f told spells (bad_proof m k e has h) = faulty_text m k e h
after_formula call d out stop t f told spells (bad_step m k e g p has has_proof h) =
    faulty_step m k e p has_proof (subst (λ (x : CnfFormula). first_fault x p ≡ Some (m, k)) (same_formula call d t f g told.told spells has) h)
after_formula call d out stop t f told spells (not_accepted_written e h bytes settled o) =
    written h o.proof o.has_proof (subst (λ (x : CnfFormula). Accepted x o.proof) (same_formula call d t f o.formula told.told spells o.has_formula) o.accepted)
after_formula call d out stop t f told spells (no_memory e) = short_of_memory e

-- ---- the refusals of the proof come
faulty_proof : (call : LratCall) (d : DeskSeen) (u : List ℕ) (line : ℕ) (kind : LratKind) (p : List LratStep) → d.old.text call.proof ≡ Some u → IsFirstInProof u line kind
    → HasProof call d p → ⊥
faulty_proof call d u line kind p told first has = lrat_text.not-both u p line kind (told_proof call d u p told has).spells first

bad_proof_stops : (call : LratCall) (d : DeskSeen) (out : SinkSeen) (stop : Stop) (f : CnfFormula) (u : List ℕ) (line : ℕ) (kind : LratKind) → IsTold d files.Proof call.proof u
    → IsFirstInProof u line kind → ProofStops call d out f stop → (stop ≡ stops.Refused (refusals.Proof line kind)) ⊎ (stop ≡ stops.OutOfMemory)
bad_proof_stops call d out stop f u line kind told first (unreadable h) = absurd (told.no_fault h)
bad_proof_stops call d out stop f u line kind told first (long e h) = absurd (told_long d files.Proof call.proof u told.told told.short h)
bad_proof_stops call d out stop f u line kind told first (faulty_text m k e h) =
    let same = lrat_text.one-fault u m line k kind (told_proof_fault call d u m k told.told h).first first in
    inl (e ∙ (ap (λ (x : ℕ). stops.Refused (refusals.Proof x k)) same.0 ∙ ap (λ (x : LratKind). stops.Refused (refusals.Proof line x)) same.1))
bad_proof_stops call d out stop f u line kind told first (faulty_step m k e p has h) = absurd (faulty_proof call d u line kind p told.told first has)
bad_proof_stops call d out stop f u line kind told first (written h p has accepted) = absurd (faulty_proof call d u line kind p told.told first has)
bad_proof_stops call d out stop f u line kind told first (short_of_memory e) = inr e

pub bad_proof_comes : (command : Meaning) (d : DeskSeen) (out err : SinkSeen) (status : Status) → IsAnswer command d out err status → BadProofComes command d err status
bad_proof_comes command d out err status (inl w) call t f u line kind e told spells also first =
    let o = lrat_output command call d w.whole.bytes w.settled e w.whole.output in
    absurd (faulty_proof call d u line kind o.proof also.told first o.has_proof)
bad_proof_comes command d out err status (inr s) call t f u line kind e told spells also first =
    stopped_so command d out err status (stops.Refused (refusals.Proof line kind)) s
    (bad_proof_stops call d out s.stop f u line kind also first (after_formula call d out s.stop t f told spells (stops_of command call d out s.stop e s.stopped.cause)))

past_proof : (d : DeskSeen) (name u : List ℕ) → IsToldTooLong d files.Proof name u → length u ≤ limit_of files.Proof → ⊥
past_proof d name u past short = let over : limit_of files.Proof < length u = past.long in omega arith

long_proof_stops : (call : LratCall) (d : DeskSeen) (out : SinkSeen) (stop : Stop) (f : CnfFormula) (u : List ℕ) → IsToldTooLong d files.Proof call.proof u
    → ProofStops call d out f stop → (stop ≡ stops.TooLong files.Proof) ⊎ (stop ≡ stops.OutOfMemory)
long_proof_stops call d out stop f u past (unreadable h) = absurd (past.no_fault h)
long_proof_stops call d out stop f u past (long e h) = inl e
long_proof_stops call d out stop f u past (faulty_text m k e h) = absurd (past_proof d call.proof u past (told_proof_fault call d u m k past.told h).short)
long_proof_stops call d out stop f u past (faulty_step m k e p has h) = absurd (past_proof d call.proof u past (told_proof call d u p past.told has).short)
long_proof_stops call d out stop f u past (written h p has accepted) = absurd (past_proof d call.proof u past (told_proof call d u p past.told has).short)
long_proof_stops call d out stop f u past (short_of_memory e) = inr e

pub long_proof_comes : (command : Meaning) (d : DeskSeen) (out err : SinkSeen) (status : Status) → IsAnswer command d out err status → LongProofComes command d err status
long_proof_comes command d out err status (inl w) call t f u e told spells past =
    let o = lrat_output command call d w.whole.bytes w.settled e w.whole.output in
    absurd (past_proof d call.proof u past (told_proof call d u o.proof past.told o.has_proof).short)
long_proof_comes command d out err status (inr s) call t f u e told spells past =
    stopped_so command d out err status (stops.TooLong files.Proof) s
    (long_proof_stops call d out s.stop f u past (after_formula call d out s.stop t f told spells (stops_of command call d out s.stop e s.stopped.cause)))

-- ---- the refusals of a step come
-- a proof with a first fault isn't accepted
not_accepted : (f : CnfFormula) (p : List LratStep) (step : ℕ) (kind : ProofKind) → first_fault f p ≡ Some (step, kind) → Accepted f p → ⊥
not_accepted f p step kind fault accepted = none-some (step, kind) (sym ((accepted_without_fault f p).1 accepted) ∙ fault)

same_step : (f : CnfFormula) (p : List LratStep) (m n : ℕ) (k l : ProofKind) → first_fault f p ≡ Some (m, k) → first_fault f p ≡ Some (n, l)
    → stops.Refused (refusals.Step m k) ≡ stops.Refused (refusals.Step n l)
same_step f p m n k l here there =
    let both : Some (m, k) ≡ Some (n, l) = sym here ∙ there in
    let pairs : (m, k) ≡ (n, l) = cc in
    let steps : m ≡ n = ap (λ (x : ℕ × ProofKind). x.0) pairs in
    let kinds : k ≡ l = ap (λ (x : ℕ × ProofKind). x.1) pairs in
    ap (λ (x : ℕ). stops.Refused (refusals.Step x k)) steps ∙ ap (λ (x : ProofKind). stops.Refused (refusals.Step n x)) kinds

bad_step_stops : (call : LratCall) (d : DeskSeen) (out : SinkSeen) (stop : Stop) (f : CnfFormula) (u : List ℕ) (p : List LratStep) (step : ℕ) (kind : ProofKind)
    → IsTold d files.Proof call.proof u → SpellsProof u p → first_fault f p ≡ Some (step, kind) → ProofStops call d out f stop
    → (stop ≡ stops.Refused (refusals.Step step kind)) ⊎ (stop ≡ stops.OutOfMemory)
bad_step_stops call d out stop f u p step kind told spells fault (unreadable h) = absurd (told.no_fault h)
bad_step_stops call d out stop f u p step kind told spells fault (long e h) = absurd (told_long d files.Proof call.proof u told.told told.short h)
bad_step_stops call d out stop f u p step kind told spells fault (faulty_text m k e h) =
    absurd (lrat_text.not-both u p m k spells (told_proof_fault call d u m k told.told h).first)
bad_step_stops call d out stop f u p step kind told spells fault (faulty_step m k e q has h) =
    let here : first_fault f p ≡ Some (m, k) = subst (λ (x : List LratStep). first_fault f x ≡ Some (m, k)) (same_proof call d u p q told.told spells has) h in
    inl (e ∙ same_step f p m step k kind here fault)
bad_step_stops call d out stop f u p step kind told spells fault (written h q has accepted) =
    absurd (not_accepted f p step kind fault (subst (λ (x : List LratStep). Accepted f x) (same_proof call d u p q told.told spells has) accepted))
bad_step_stops call d out stop f u p step kind told spells fault (short_of_memory e) = inr e

pub bad_step_comes : (command : Meaning) (d : DeskSeen) (out err : SinkSeen) (status : Status) → IsAnswer command d out err status → BadStepComes command d err status
bad_step_comes command d out err status (inl w) call t f u p step kind e told spells also spells_proof fault =
    let o = lrat_output command call d w.whole.bytes w.settled e w.whole.output in
    let one : o.formula ≡ f = same_formula call d t f o.formula told.told spells o.has_formula in
    let other : o.proof ≡ p = same_proof call d u p o.proof also.told spells_proof o.has_proof in
    absurd (not_accepted f p step kind fault (subst (λ (x : List LratStep). Accepted f x) other (subst (λ (x : CnfFormula). Accepted x o.proof) one o.accepted)))
bad_step_comes command d out err status (inr s) call t f u p step kind e told spells also spells_proof fault =
    stopped_so command d out err status (stops.Refused (refusals.Step step kind)) s
    (bad_step_stops call d out s.stop f u p step kind also spells_proof fault (after_formula call d out s.stop t f told spells (stops_of command call d out s.stop e s.stopped.cause)))

-- ---- an accepted proof
proved : (call : LratCall) (d : DeskSeen) (out : SinkSeen) (status : Status) (f : CnfFormula) (p : List LratStep) (bytes : List ℕ) (settled : Bool) → Spells call d f p
    → IsLratOutput call d bytes settled → Took out bytes → status ≡ settled_status settled → IsProved f p out status
proved call d out status f p bytes settled spells o took e =
    let one : o.formula ≡ f = same_formula call d spells.formula_text f o.formula spells.formula_told spells.formula o.has_formula in
    let other : o.proof ≡ p = same_proof call d spells.proof_text p o.proof spells.proof_told spells.proof o.has_proof in
    let accepted : Accepted f p = subst (λ (x : List LratStep). Accepted f x) other (subst (λ (x : CnfFormula). Accepted x o.proof) one o.accepted) in
    record {
      settled = e ∙ ap settled_status o.settled_is;
      accepted = accepted;
      no_model = accepted_refutes f p accepted;
      took = subst (λ (xs : List ℕ). Took out xs) o.bytes_are took;
    }

pub accepted_cause : (command : Meaning) (d : DeskSeen) (out err : SinkSeen) (status : Status) → IsAnswer command d out err status → AcceptedCause command d out status
accepted_cause command d out err status (inl w) call f p e spells ended =
    proved call d out status f p w.whole.bytes w.settled spells (lrat_output command call d w.whole.bytes w.settled e w.whole.output) w.whole.took w.status_is
accepted_cause command d out err status (inr s) call f p e spells ended = absurd (not_ended s.stop status s.status_is ended)

accepted_stops : (call : LratCall) (d : DeskSeen) (out : SinkSeen) (stop : Stop) (f : CnfFormula) (p : List LratStep) → Spells call d f p → Accepted f p
    → IsUndisturbed (Lrat call) d out → ProofStops call d out f stop → stop ≡ stops.OutOfMemory
accepted_stops call d out stop f p s accepted u (unreadable h) = absurd (u.files files.Proof h)
accepted_stops call d out stop f p s accepted u (long e h) = absurd (told_long d files.Proof call.proof s.proof_text s.proof_told s.proof_short h)
accepted_stops call d out stop f p s accepted u (faulty_text m k e h) =
    absurd (lrat_text.not-both s.proof_text p m k s.proof (told_proof_fault call d s.proof_text m k s.proof_told h).first)
accepted_stops call d out stop f p s accepted u (faulty_step m k e q has h) =
    let here = subst (λ (x : List LratStep). first_fault f x ≡ Some (m, k)) (same_proof call d s.proof_text p q s.proof_told s.proof has) h in
    absurd (not_accepted f p m k here accepted)
accepted_stops call d out stop f p s accepted u (written h q has also) = absurd (u.output h)
accepted_stops call d out stop f p s accepted u (short_of_memory e) = e

accepted_stop : (call : LratCall) (d : DeskSeen) (out : SinkSeen) (stop : Stop) (f : CnfFormula) (p : List LratStep) → Spells call d f p → Accepted f p
    → IsUndisturbed (Lrat call) d out → LratStops call d out stop → stop ≡ stops.OutOfMemory
accepted_stop call d out stop f p s accepted u h =
    let told : IsTold d files.Formula call.formula s.formula_text = record { told = s.formula_told; short = s.formula_short; no_fault = u.files files.Formula } in
    accepted_stops call d out stop f p s accepted u (after_formula call d out stop s.formula_text f told s.formula h)

pub accepted_comes : (command : Meaning) (d : DeskSeen) (out err : SinkSeen) (status : Status) → IsAnswer command d out err status → AcceptedComes command d out status
accepted_comes command d out err status (inl w) call f p e spells accepted undisturbed =
    inl (proved call d out status f p w.whole.bytes w.settled spells (lrat_output command call d w.whole.bytes w.settled e w.whole.output) w.whole.took w.status_is)
accepted_comes command d out err status (inr s) call f p e spells accepted undisturbed =
    let by = stops_of command call d out s.stop e s.stopped.cause in
    let memory = accepted_stop call d out s.stop f p spells accepted (subst (λ (x : Meaning). IsUndisturbed x d out) e undisturbed) by in
    inr (s.status_is ∙ ap status_of memory)
