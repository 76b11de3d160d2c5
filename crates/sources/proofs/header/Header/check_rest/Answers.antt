use Rattle.std.proofs.Common.{◌≡◌, Some, None, sym, ap, ◌∙◌, rules}
use Rattle.sources.specs.First.{first_failing, each_below}
use Rattle.sources.specs.Checks.{record_checks, total_checks}
use Rattle.sources.proofs.CardParts.{record_fails, total_fails, entries_remain}
use Rattle.sources.proofs.Told.{tells_passed_on}
use Rattle.sources.proofs.header.Header.check_rest.Goals as goal

pub returns-in_err-total : goal.returns-in_err-total
returns-in_err-total c =
    let bs = c.args.self.now.bytes.now in
    let header = c.args.self.now.passed in
    let fails = ap (λ n. first_failing (each_below n (record_checks bs))) (sym header.measures_read) ∙ c.in_err-total.ensures in
    tells_passed_on c.from_residual.result c.from_residual.ensures.1 (record_fails bs header.none_fails _ fails)

pub returns-in_err-require : goal.returns-in_err-require
returns-in_err-require c =
    let bs = c.args.self.now.bytes.now in
    let header = c.args.self.now.passed in
    let none = ap (λ n. first_failing (each_below n (record_checks bs))) (sym header.measures_read) ∙ c.in_ok-total.ensures.0 in
    let fails : first_failing (total_checks bs) ≡ Some c.in_err-require.field-0.0 = search rules in
    tells_passed_on c.from_residual-in_err-require.result c.from_residual-in_err-require.ensures.1 (total_fails bs header.none_fails none _ fails)

pub returns-in_err-check_entries : goal.returns-in_err-check_entries
returns-in_err-check_entries c =
    let bs = c.args.self.now.bytes.now in
    let header = c.args.self.now.passed in
    let none = ap (λ n. first_failing (each_below n (record_checks bs))) (sym header.measures_read) ∙ c.in_ok-total.ensures.0 in
    let total : first_failing (total_checks bs) ≡ None = search rules in
    let remain = entries_remain bs header.none_fails none total in
    tells_passed_on c.from_residual-in_err-check_entries.result c.from_residual-in_err-check_entries.ensures.1 (remain ∙ c.in_err-check_entries.ensures)

pub returns : goal.returns
returns c =
    let bs = c.args.self.now.bytes.now in
    let header = c.args.self.now.passed in
    let none = ap (λ n. first_failing (each_below n (record_checks bs))) (sym header.measures_read) ∙ c.in_ok-total.ensures.0 in
    let total : first_failing (total_checks bs) ≡ None = search rules in
    let remain = entries_remain bs header.none_fails none total in
    remain ∙ c.in_ok-check_entries.ensures
