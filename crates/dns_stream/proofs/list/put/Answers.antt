use Rattle.std.proofs.Common.{◌≡◌, ◌∙◌, if◌then◌else◌, ap, sym, subst, ◌++◌, ◌∷◌, [], Bool, insert}
use Rattle.dns_stream.specs.Prelude.{AreOneList}
use Rattle.dns_stream.proofs.Order.{put_new, put_known}
use Rattle.dns_stream.proofs.list.put.Goals as goal

pub returns-in-Ok-clause-one : goal.returns-in-Ok-clause-one
returns-in-Ok-clause-one c entries few one =
    put_known entries c.args.sorted.now.items c.args.entry c.in-Ok._known (rw c.deref.ensures.value at c.in-Ok.ensures.found) few one

pub returns-in-Err-clause-one : goal.returns-in-Err-clause-one
returns-in-Err-clause-one c entries few one =
    let old = c.args.sorted.now.items in
    let new = insert old c.in-Err.place c.args.entry in
    let put : c.insert-fits.new.self.items ≡ new =
    c.insert-fits.ensures.items
    ∙ ap (λ (b : Bool). if b then new else old) (c.insert-fits.ensures.succeeds c.requires.room) in
    subst (AreOneList (entries ++ c.args.entry ∷ [])) (sym put)
    (put_new entries old c.args.entry c.in-Err.place (rw c.deref.ensures.value at c.in-Err.ensures.absent) few one)
