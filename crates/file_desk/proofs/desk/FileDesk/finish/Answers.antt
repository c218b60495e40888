use Rattle.std.proofs.Common.{refl, sym, ◌∙◌}
use Rattle.file_desk.proofs.FileLaws.{rose_one}
use Rattle.file_desk.proofs.Gathering.{none_before, none_failed}
use Rattle.file_desk.proofs.Unread.{files_alike}
use Rattle.file_desk.proofs.desk.FileDesk.finish.Goals as goal

pub invariant_of-self : goal.invariant_of-self
invariant_of-self g c = rw c.in-None.is tt

pub returns-in-None-clause-ok : goal.returns-in-None-clause-ok
returns-in-None-clause-ok g c =
    let none = none_before c.self.inside.refused c.hand_out.new.refused c.hand_out.ensures.kept c.in-None.is in
    rw (← c.self.view_is) record {
      files = none_failed c.hand_out.result c.hand_out.new.refused c.hand_out.ensures.err c.in-None.is c.hand_out.ensures.files;
      rest = files_alike _ _ c.hand_out.ensures.keeps.accesses c.hand_out.ensures.keeps.ahead c.hand_out.ensures.keeps.unread refl
          (none_failed c.hand_out.result c.hand_out.new.refused c.hand_out.ensures.err c.in-None.is c.hand_out.ensures.all) (c.in-None.is ∙ sym none)
          refl refl;
    }

pub returns-in-None-clause-none : goal.returns-in-None-clause-none
returns-in-None-clause-none g c =
    rw (← c.self.view_is) (none_before c.self.inside.refused c.hand_out.new.refused c.hand_out.ensures.kept c.in-None.is)

pub returns-in-None-clause-named : goal.returns-in-None-clause-named
returns-in-None-clause-named g c =
    let none = none_before c.self.inside.refused c.hand_out.new.refused c.hand_out.ensures.kept c.in-None.is in
    rw (← c.self.view_is, none) tt

pub returns-in-Some-clause-err : goal.returns-in-Some-clause-err
returns-in-Some-clause-err g c =
    rw (← c.self.view_is) (files_alike _ _ c.nowhere.ensures.accesses c.nowhere.ensures.ahead c.nowhere.ensures.unread
    (c.nowhere.ensures.got g.R.File.Write.contents) c.nowhere.ensures.waiting refl c.raise.ensures refl)

pub returns-in-Some-clause-cause : goal.returns-in-Some-clause-cause
returns-in-Some-clause-cause g c = rw (← c.self.view_is) (rose_one c.in-Some.slot c.self.inside.faults c.raise.new.self c.raise.ensures)
