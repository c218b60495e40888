use Rattle.std.proofs.lemmas.Result.{err_from_is_err_and}
use Rattle.file_desk.proofs.place.open_place.Goals as goal

pub returns-in_err-file-in-Read : goal.returns-in_err-file-in-Read
returns-in_err-file-in-Read g c =
    let p = err_from_is_err_and c.from_residual.result c.from_residual.ensures.1 in
    record { none = rw p.1 tt; access = rw p.1 tt; ahead = rw p.1 tt }

pub returns-in_err-reader-in-Read : goal.returns-in_err-reader-in-Read
returns-in_err-reader-in-Read g c =
    let p = err_from_is_err_and c.from_residual-in_err-reader-in-Read.result c.from_residual-in_err-reader-in-Read.ensures.1 in
    record { none = rw p.1 tt; access = rw p.1 tt; ahead = rw p.1 tt }

pub returns-in_err-gathered-in-Write : goal.returns-in_err-gathered-in-Write
returns-in_err-gathered-in-Write g c =
    let p = err_from_is_err_and c.from_residual-in_err-gathered-in-Write.result c.from_residual-in_err-gathered-in-Write.ensures.1 in
    record { none = rw p.1 tt; access = rw p.1 tt; ahead = rw p.1 tt }

pub returns-in_err-refuse_open_output-in-Write : goal.returns-in_err-refuse_open_output-in-Write
returns-in_err-refuse_open_output-in-Write g c =
    let p = err_from_is_err_and c.from_residual-in_err-refuse_open_output-in-Write.result
    c.from_residual-in_err-refuse_open_output-in-Write.ensures.1 in
    record { none = rw p.1 tt; access = rw p.1 tt; ahead = rw p.1 tt }

pub returns-in_err-file-in-Write : goal.returns-in_err-file-in-Write
returns-in_err-file-in-Write g c =
    let p = err_from_is_err_and c.from_residual-in_err-file-in-Write.result c.from_residual-in_err-file-in-Write.ensures.1 in
    record { none = rw p.1 tt; access = rw p.1 tt; ahead = rw p.1 tt }
