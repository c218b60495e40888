use Rattle.std.proofs.Common.{◌+◌, length, arith}
use Rattle.ipv4_frames.proofs.Heads.{holds_fields, reads_written}
use Rattle.ipv4_frames.proofs.head.reads_back.Goals as goal

pub returns-clause-written : goal.returns-clause-written
returns-clause-written c =
    (holds_fields c.args.model.now (20 + length c.args.payload.now) c.args.lifetime c.args.source c.args.destination c.requires.head c.requires.fits
    (omega arith) (omega arith)).count

pub returns-clause-read : goal.returns-clause-read
returns-clause-read c =
    reads_written c.args.model.now c.args.payload.now c.args.lifetime c.args.source c.args.destination c.requires.head c.requires.plain
    c.requires.fits (omega arith) (omega arith)
