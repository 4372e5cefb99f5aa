-- What the lines of proofs and of clauses tell.
use Rattle.std.specs.Prelude.{ℕ, ◌^◌, ℤ, nat_abs, nat_eq, nat_lt, bytes_eq, codes, Option, Some, None, List, [], ◌∷◌, if◌then◌else◌}
use Rattle.text_words.specs.Numbers.{decimal_number_of}
use Rattle.lrat_text.specs.Lrat.{fits_i32}
use Rattle.lrat_text.specs.declared.proof.LratStep.{LratStep}
use Rattle.lrat_text.specs.declared.proof.LratStep.TheVariants.{Add, Delete}
use Rattle.report_lines.specs.Words.{Word, Line, ◌>>?◌, word, until, last, whole_line, signed_of}
use Rattle.report_lines.specs.Reading.{Place, Read, line_read, section_read}

-- ---- numbers
abbrev pub if_hint : ℤ → Option ℤ
if_hint z = if nat_eq (nat_abs z) 0 then None else Some z

abbrev pub hint_of : Word → Option ℤ
hint_of w = signed_of w >>? if_hint

abbrev pub if_literal : ℤ → Option ℤ
if_literal z = if fits_i32 z then Some z else None

abbrev pub literal_of : Word → Option ℤ
literal_of w = hint_of w >>? if_literal

abbrev pub if_id : ℕ → Option ℕ
if_id n = if nat_eq n 0 then None else (if nat_lt n (2 ^ 63) then Some n else None)

abbrev pub id_of : Word → Option ℕ
id_of w = decimal_number_of w >>? if_id

-- ---- a step
abbrev pub addition_of : ℕ → Line → Option LratStep
addition_of id ws = until (codes "0") literal_of [] ws >>? λ l. until (codes "0") hint_of [] l.1 >>? λ h. last (Add id l.0 h.0) h.1

abbrev pub deletion_of : ℕ → Line → Option LratStep
deletion_of id ws = until (codes "0") id_of [] ws >>? λ d. last (Delete id d.0) d.1

abbrev pub after_id : ℕ → Line → Option LratStep
after_id id [] = None
after_id id (w ∷ ws) = if bytes_eq w (codes "d") then deletion_of id ws else addition_of id (w ∷ ws)

abbrev pub step_of : Line → Option LratStep
step_of ws = word id_of ws >>? λ i. after_id i.0 i.1

abbrev pub proof_read : Place → Read (List LratStep)
proof_read p = section_read (codes "proof") (λ _. line_read step_of) p

-- ---- a clause
abbrev pub clause_of : Line → Option (List ℤ)
clause_of ws = whole_line (until (codes "0") literal_of []) ws
