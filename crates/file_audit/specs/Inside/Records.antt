-- The next records of a given capture, as they are taken and judged.
use Rattle.std.specs.Prelude.{◌≡◌, ◌-◌, ◌≤◌, ◌<◌, ◌+◌, ℕ, Bool, true, false, List, [], ◌∷◌, fold, length, drop, Result, Ok, Err, None, IfSome}
use Rattle.gate_base.specs.Prelude.{other}
use Rattle.gate_desk.specs.Outside.{Outside, Takes, told_at}
use Rattle.pcap_files.specs.Prelude.{Packet, Whole, records_from, Reading}
use Rattle.pcap_files.specs.declared.record.TheConstants.{LONGEST_CAPTURE, LONGEST_RECORD}
use Rattle.pcap_merge.specs.Prelude.{with_records}
use Rattle.lawful_files.specs.Prelude.{behind}
use Rattle.gate_audit.specs.Auditing.{Auditing}
use Rattle.run_setup.specs.declared.status.Status.{Status}
use Rattle.file_audit.specs.Inside.Stops.{FailsAt}

-- how far the records of the last event have come behind these
abbrev pub judged : Auditing → List Packet → Auditing
judged a packets =
    record a {
      expecting =
          record a.expecting
          { so_far = fold (behind a.settings (other a.expecting.side) a.expecting.moment a.expecting.wanted) a.expecting.so_far packets };
    }

-- these records were taken and judged, and nothing else happened
pub record Took (packets : List Packet) (r r' : Reading) (a a' : Auditing) (old new : Outside) : Type 0 where
  pub slot : r'.slot ≡ r.slot
  pub form : r'.form ≡ r.form
  pub running : r'.stop ≡ None
  pub further : r.place + length packets ≤ r'.place
  pub takes : Takes r.slot (r'.place - r.place) old new
  pub ahead : IfSome (told_at old.left r.slot)
      (λ octets. records_from r.form r.place octets ≡ with_records packets (records_from r.form r'.place (drop (r'.place - r.place) octets)))
  pub small : r.place ≤ LONGEST_CAPTURE → r'.place ≤ LONGEST_CAPTURE
  pub audited : a' ≡ judged a packets

-- some octets were taken from the capture, and nothing else happened
abbrev pub TakesSome : Reading → Outside → Outside → Type 0
TakesSome r old new = (count : ℕ) × Takes r.slot count old new

-- a record was taken and judged; or none stands next; or a read failed
abbrev pub TakesRecord : Result Bool Status → Reading → Reading → Auditing → Auditing → Outside → Outside → Type 0
TakesRecord (Ok true) r r' a a' old new = (p : Packet) × (length p.octets ≤ LONGEST_RECORD) × Took (p ∷ []) r r' a a' old new
TakesRecord (Ok false) r r' a a' old new = TakesSome r old new
    × IfSome (told_at old.left r.slot) (λ octets. length (records_from r.form r.place octets).packets ≡ 0)
TakesRecord (Err stop) r r' a a' old new = TakesSome r old new × FailsAt stop r.slot old new

-- so many were taken and judged; or fewer stand next; or a read failed
abbrev pub TakesRecords : Result Bool Status → ℕ → Reading → Reading → Auditing → Auditing → Outside → Outside → Type 0
TakesRecords (Ok true) frames r r' a a' old new = (packets : List Packet) × (length packets ≡ frames) × Took packets r r' a a' old new
TakesRecords (Ok false) frames r r' a a' old new = TakesSome r old new
    × IfSome (told_at old.left r.slot) (λ octets. length (records_from r.form r.place octets).packets < frames)
TakesRecords (Err stop) frames r r' a a' old new = TakesSome r old new × FailsAt stop r.slot old new

-- whether nothing is left of the capture, and it has no fault; or a read failed
abbrev pub FindsEnd : Result Bool Status → Reading → Outside → Outside → Type 0
FindsEnd (Ok true) r old new = TakesSome r old new
    × IfSome (told_at old.left r.slot) (λ octets. records_from r.form r.place octets ≡ record { packets = []; ending = Whole })
FindsEnd (Ok false) r old new = TakesSome r old new
    × IfSome (told_at old.left r.slot) (λ octets. records_from r.form r.place octets ≡ record { packets = []; ending = Whole } → ⊥)
FindsEnd (Err stop) r old new = TakesSome r old new × FailsAt stop r.slot old new
