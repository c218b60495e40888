-- What the data of a type and class holds (RFC 1035, 3.3 and 3.4).
use Rattle.std.specs.Prelude.{ℕ, ◌==◌, ◌&&◌, ◌||◌, if◌then◌else◌}
use Rattle.dns_messages.specs.declared.form.Form.{Form}
use Rattle.dns_messages.specs.declared.form.Form.TheVariants as form

-- The form of a type and class: only addresses ask for class 1.
abbrev pub form_of : ℕ → ℕ → Form
form_of kind class =
    if kind == 1 && class == 1 then form.Address
    else if kind == 2 || kind == 3 || kind == 4 || kind == 5 || kind == 7 || kind == 8 || kind == 9 || kind == 12 then form.One
    else if kind == 6 then form.Soa
    else if kind == 14 then form.Two
    else if kind == 15 then form.Mx
    else form.Octets

-- data of length 0 is kept octets, whatever the type
abbrev pub form_at : ℕ → ℕ → ℕ → Form
form_at kind class count = if count == 0 then form.Octets else form_of kind class
