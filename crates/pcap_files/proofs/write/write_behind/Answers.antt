use Rattle.std.proofs.lemmas.Result.{err_from_is_err_and, on_ok_weaker, on_err_weaker}
use Rattle.gate_desk.proofs.Laws.{writes_on, writes_part_on, writes_part_first}
use Rattle.pcap_files.proofs.write.write_behind.Goals as goal

pub returns-in_err-write_both-clause-err : goal.returns-in_err-write_both-clause-err
returns-in_err-write_both-clause-err g c =
    let p = err_from_is_err_and c.from_residual.result c.from_residual.ensures.1 in
    rw p.1 (writes_part_first c.args.slot _ c.args.octets.now _ _ c.in_err-write_both.ensures.err)

pub returns-clause-ok : goal.returns-clause-ok
returns-clause-ok g c =
    on_ok_weaker c.write_whole.result (λ h. writes_on c.args.slot _ _ _ _ _ c.in_ok-write_both.ensures.ok h) c.write_whole.ensures.ok

pub returns-clause-err : goal.returns-clause-err
returns-clause-err g c =
    on_err_weaker c.write_whole.result (λ h. writes_part_on c.args.slot _ _ _ _ _ c.in_ok-write_both.ensures.ok h) c.write_whole.ensures.err
