-- The settings of a workload are accepted, and its captures are read to their ends.
use Rattle.std.proofs.Common.{◌≡◌, ℕ, ◌≤◌, List, [], ◌∷◌, Ok, Err, false, refl, subst}
use Rattle.std.specs.Str.{is_utf8, chars}
use Rattle.toml.proofs.OnLiterals.{toml_on_literals}
use Rattle.gate_base.specs.Address.{quad, number_of}
use Rattle.gate_base.specs.declared.side.Side.{Side}
use Rattle.gate_base.specs.declared.side.Side.TheVariants.{Left, Right}
use Rattle.gate_base.specs.declared.side.Link.TheVariants.{Raw}
use Rattle.settings_file.specs.declared.fault.SettingsFault.{SettingsFault}
use Rattle.gate_settings.specs.declared.settings.ReportForm.TheVariants.{Text}
use Rattle.gate_settings.specs.declared.settings.Settings.{Settings}
use Rattle.gate_settings.specs.declared.settings.SideSettings.{SideSettings}
use Rattle.settings_file.specs.Document.{report, join, link, side, mac, address, block, blocks, side_keys, static_keys, static_entry, statics, side_table, all_keys, document_of, keys_of}
use Rattle.gate_settings.specs.Cross.{block_end, host_is_taken, alias_is_outside}
use Rattle.settings_file.specs.Accepting.{pool_size, same_in_pool, host_in_pool, static_outside_pool, static_repeated, mac_missing, first_fault, settings_of}
use Rattle.settings_file.specs.Texts.{report_text, join_text, link_text, side_text, address_text, block_text, hex_pair, mac_text}
use Rattle.settings_file.specs.Keys.{name_of, key_text}
use Rattle.gate_workload.specs.Captures.{capture_form}
use Rattle.gate_workload.specs.Workloads.{settings, workload, IsWhole}
use Rattle.gate_workload.proofs.Whole.{left_whole, right_whole}
use Rattle.pcap_files.specs.declared.fault.CaptureFault.{CaptureFault}
use Rattle.pcap_files.specs.Prelude.{Packet, Ending as CaptureEnding, Whole, Fault as CaptureEndsFaulty, capture_of}
use Rattle.pcap_merge.specs.Prelude.{Ending, Fault as EndsFaulty, EndsBy}
use Rattle.pcap_merge.proofs.Weave.{merges}
use Rattle.gateway.specs.Prelude.{workload_in}
use Rattle.run_setup.specs.Prelude.{events_in}

abbrev zeros : List ℕ
zeros = 0 ∷ 0 ∷ 0 ∷ 0 ∷ 0 ∷ 0 ∷ []

abbrev raw_side : ℕ → ℕ → SideSettings
raw_side first last = record { first = record { 0 = first }; last = record { 0 = last }; link = Raw; gateway_mac = zeros; next_mac = zeros }

abbrev accepted_settings : Settings
accepted_settings = record {
  report = Text;
  join = false;
  same = [];
  left = raw_side 0xc0a8c801 0xc0a8c8fe;
  right = raw_side 0xac100901 0xac1009fe;
  oids = [];
  statics =
      (record { side = Left; host = record { 0 = 0x0a000005 }; alias = record { 0 = 0xac100901 } })
      ∷ (record { side = Right; host = record { 0 = 0x0a000005 }; alias = record { 0 = 0xc0a8c801 } })
      ∷ (record { side = Right; host = record { 0 = 0x0a000035 }; alias = record { 0 = 0xc0a8c835 } })
      ∷ [];
}

accepted : settings_of settings ≡ Ok accepted_settings
unfolding toml_on_literals is_utf8 chars quad number_of report join link side mac address block blocks side_keys static_keys static_entry statics
    side_table all_keys document_of keys_of block_end host_is_taken alias_is_outside pool_size same_in_pool host_in_pool static_outside_pool
    static_repeated mac_missing first_fault settings_of report_text join_text link_text side_text address_text block_text hex_pair mac_text name_of
    key_text
accepted = refl

pub never_refused : (f : SettingsFault) → settings_of settings ≡ Err f → ⊥
never_refused f h = cc (accepted, h)

whole_or_faulty : (e : CaptureEnding) (f : CaptureFault) (place : ℕ) → e ≡ Whole → e ≡ CaptureEndsFaulty f place → ⊥
whole_or_faulty e f place whole faulty = cc

both_end : (side : Side) (f : CaptureFault) (place : ℕ) (left right : CaptureEnding) (l r : List Packet) → left ≡ Whole → right ≡ Whole
    → EndsBy (EndsFaulty side f place) l left r right → ⊥
both_end Left f place left right l r is_left is_right h = whole_or_faulty left f place is_left h.1
both_end Right f place left right l r is_left is_right h = whole_or_faulty right f place is_right h.1

pub never_faulty : (number count : ℕ) (side : Side) (f : CaptureFault) (place : ℕ) → count ≤ 100000
    → (events_in (workload_in number count)).ending ≡ EndsFaulty side f place → ⊥
never_faulty number count side f place few h =
    let left = (workload number count).left in
    let right = (workload number count).right in
    let is_left : IsWhole left = left_whole number count few in
    let is_right : IsWhole right = right_whole number count few in
    let merged = merges left right capture_form capture_form is_left.0 is_right.0 in
    both_end side f place (capture_of left).ending (capture_of right).ending (merged.untaken Left) (merged.untaken Right) is_left.1 is_right.1
    (subst (λ (e : Ending). EndsBy e (merged.untaken Left) (capture_of left).ending (merged.untaken Right) (capture_of right).ending) h merged.ending)
