use Rattle.std.proofs.Common.{◌≡◌, length, get_or, sym, arith}
use Rattle.std.specs.Prelude.{◌==◌}
use Rattle.std.proofs.lemmas.Bool.{ne_eqb, eq-eqb}
use Rattle.std.proofs.lemmas.List.Sums.{position_or_len_is}
use Rattle.report_lines.proofs.words.first_space.Goals as goal

pub returns-then-byte-eq32-clause-place : goal.returns-then-byte-eq32-clause-place
returns-then-byte-eq32-clause-place c =
    let bytes = c.args.bytes.now in
    let here : get_or bytes c.loop-place.place 0 ≡ 32 = omega arith in
    sym (position_or_len_is (λ b. b == 32) bytes c.loop-place.place 0 (omega arith) (λ k h. ne_eqb (get_or bytes k 0) 32 (c.loop-place.invariant k h)) (λ _. eq-eqb (get_or bytes c.loop-place.place 0) 32 here))

pub returns-clause-place : goal.returns-clause-place
returns-clause-place c =
    let bytes = c.args.bytes.now in
    sym (position_or_len_is (λ b. b == 32) bytes (length bytes) 0 (omega arith) (λ k h. ne_eqb (get_or bytes k 0) 32 (c.loop-place.invariant k (omega arith))) (λ h. absurd (omega arith)))
