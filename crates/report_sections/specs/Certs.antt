-- What certificates tell.
use Rattle.std.specs.Prelude.{ℕ, zero, suc, ℤ, codes, Ok, List, [], ◌∷◌, ◌++◌}
use Rattle.lrat_text.specs.declared.proof.LratStep.{LratStep}
use Rattle.report_text.specs.declared.report.Inv.{Inv}
use Rattle.report_lines.specs.Words.{count_in}
use Rattle.report_lines.specs.Reading.{Place, Read, ◌>>=◌, line_read, items_read, section_read}
use Rattle.report_sections.specs.Proofs.{clause_of, proof_read}

-- so many clauses
abbrev pub clauses_read : ℕ → Place → Read (List (List ℤ))
clauses_read count p = items_read (λ _. line_read clause_of) 0 count [] p

-- so many clauses, each with its proof, behind these
abbrev pub kept_from : ℕ → List (List ℤ) → List (List LratStep) → Place → Read Inv
kept_from zero cs ps p = Ok (record { clauses = cs; kept = ps }, p)
kept_from (suc n) cs ps p = line_read clause_of p >>= λ c. proof_read c.1 >>= λ q. kept_from n (cs ++ c.0 ∷ []) (ps ++ q.0 ∷ []) q.1

abbrev pub inv_read : Place → Read Inv
inv_read p = line_read (count_in (codes "inv")) p >>= λ n. kept_from n.0 [] [] n.1

abbrev pub invs_read : Place → Read (List Inv)
invs_read p = section_read (codes "invs") (λ _. inv_read) p
