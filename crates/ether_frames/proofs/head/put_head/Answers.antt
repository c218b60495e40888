use Rattle.std.proofs.Common.{List, ℕ, ◌++◌, take, drop, ap, length-take-le}
use Rattle.ether_frames.proofs.Heads.{head_written}
use Rattle.ether_frames.proofs.head.put_head.Goals as goal

pub returns : goal.returns
returns c =
    ap (λ (head : List ℕ). head ++ drop 14 c.args.target.now)
    (head_written c.args.destination.now c.args.source.now (take 14 c.args.target.now) c.put_u16.new.octets c.copy_from_slice.new.self
    c.copy_from_slice-2.new.self
    c.told-destination c.told-source (length-take-le 14 c.args.target.now c.requires) c.copy_from_slice.ensures.after
    c.copy_from_slice-2.ensures.after c.put_u16.ensures)
