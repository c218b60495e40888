-- The next records of a given capture.
use Rattle.std.proofs.Common.{◌≡◌, ℕ, ◌+◌, ◌-◌, ◌*◌, ◌^◌, ◌≤◌, ◌<◌, List, [], ◌∷◌, ◌++◌, true, false, Ok, Err, Option, Some, None, IfSome, drop, length, refl, sym, ap, subst, ◌∙◌, arith, append_assoc, length-append, option_map, drop-drop}
use Rattle.std.proofs.lemmas.List.Sums.{fold-append}
use Rattle.gate_base.specs.Prelude.{other}
use Rattle.gate_desk.specs.declared.slot.Slot.{Slot}
use Rattle.gate_desk.specs.Outside.{Outside, Grows, Takes, told_at}
use Rattle.gate_desk.proofs.Laws.{takes_none, takes_on, told_at-took, grows_takes, failed_since}
use Rattle.pcap_files.specs.Prelude.{Packet, Records, size, Ended, Broken, Came, Whole, next_at, records_from, Reading, Advances}
use Rattle.pcap_files.specs.Capture as faults
use Rattle.pcap_files.proofs.Records.{records-came, records-ended, records-broken}
use Rattle.pcap_merge.specs.Prelude.{with_records}
use Rattle.pcap_files.specs.declared.fault.CaptureFault.{CaptureFault}
use Rattle.pcap_files.specs.declared.fault.ReadStop.TheVariants.{Fault}
use Rattle.lawful_files.specs.Prelude.{Progress, behind, carries}
use Rattle.audit_records.proofs.Carried.{carries_few}
use Rattle.gate_audit.specs.Auditing.{Auditing}
use Rattle.run_setup.specs.declared.status.Status.{Status}
use Rattle.run_setup.specs.declared.status.Status.TheVariants.{ReadFault}
use Rattle.file_audit.specs.Inside.Stops.{FailsAt}
use Rattle.file_audit.specs.Inside.Records.{FindsEnd, Took, judged, TakesSome, TakesRecord, TakesRecords}

none-of : (r : Reading) (o : Option (List ℕ))
    → IfSome o (λ octets. records_from r.form r.place octets ≡ with_records [] (records_from r.form r.place (drop (r.place - r.place) octets)))
none-of r None = tt
none-of r (Some octets) =
    let e : r.place - r.place ≡ 0 = omega arith in
    ap (λ (n : ℕ). with_records [] (records_from r.form r.place (drop n octets))) (sym e)

pub took_none : (r : Reading) (a : Auditing) (o : Outside) → r.stop ≡ None → Took [] r r a a o o
took_none r a o running = record {
  slot = refl;
  form = refl;
  running = running;
  further = omega arith;
  takes = subst (λ (n : ℕ). Takes r.slot n o o) (let e : r.place - r.place ≡ 0 = omega arith in sym e) (takes_none r.slot o);
  ahead = none-of r (told_at o.left r.slot);
  small = λ h. h;
  audited = refl;
}

-- what stands behind what was taken
behind_taken : (s : Slot) (n : ℕ) (a b : Outside) → Takes s n a b → told_at b.left s ≡ option_map (drop n) (told_at a.left s)
behind_taken s n a b h = ap (λ t. told_at t s) h.left ∙ told_at-took s n a.left

on-of : (ps qs : List Packet) (r r1 r2 : Reading) (o : Option (List ℕ)) → r1.form ≡ r.form → r.place ≤ r1.place → r1.place ≤ r2.place
    → IfSome o (λ octets. records_from r.form r.place octets ≡ with_records ps (records_from r.form r1.place (drop (r1.place - r.place) octets)))
    → IfSome (option_map (drop (r1.place - r.place)) o)
    (λ octets. records_from r1.form r1.place octets ≡ with_records qs (records_from r1.form r2.place (drop (r2.place - r1.place) octets)))
    → IfSome o
    (λ octets. records_from r.form r.place octets ≡ with_records (ps ++ qs) (records_from r.form r2.place (drop (r2.place - r.place) octets)))
on-of ps qs r r1 r2 None form le le' h k = tt
on-of ps qs r r1 r2 (Some octets) form le le' h k =
    let far : (r1.place - r.place) + (r2.place - r1.place) ≡ r2.place - r.place = omega (arith, le, le') in
    let there = drop (r1.place - r.place) octets in
    let last : drop (r2.place - r1.place) there ≡ drop (r2.place - r.place) octets = drop-drop (r2.place - r1.place) (r1.place - r.place) octets
    ∙ ap (λ (n : ℕ). drop n octets) (let e : (r1.place - r.place) + (r2.place - r1.place) ≡ r2.place - r.place = far in e) in
    let more : records_from r.form r1.place there ≡ with_records qs (records_from r.form r2.place (drop (r2.place - r1.place) there)) =
    subst (λ f. records_from f r1.place there ≡ with_records qs (records_from f r2.place (drop (r2.place - r1.place) there))) form k in
    h ∙ ap (with_records ps) (more ∙ ap (λ (xs : List ℕ). with_records qs (records_from r.form r2.place xs)) last)
    ∙ ap (λ (xs : List Packet). let x : Records =
    record { packets = xs; ending = (records_from r.form r2.place (drop (r2.place - r.place) octets)).ending } in x)
    (sym (append_assoc ps qs (records_from r.form r2.place (drop (r2.place - r.place) octets)).packets))

judged_on : (a : Auditing) (ps qs : List Packet) → judged (judged a ps) qs ≡ judged a (ps ++ qs)
judged_on a ps qs =
    ap (λ (p : Progress). let x : Auditing = record a { expecting = record a.expecting { so_far = p } } in x)
    (sym (fold-append (behind a.settings (other a.expecting.side) a.expecting.moment a.expecting.wanted) a.expecting.so_far ps qs))

pub took_on : (ps qs : List Packet) (r r1 r2 : Reading) (a a1 a2 : Auditing) (o o1 o2 : Outside) → Took ps r r1 a a1 o o1 → Took qs r1 r2 a1 a2 o1 o2
    → Took (ps ++ qs) r r2 a a2 o o2
took_on ps qs r r1 r2 a a1 a2 o o1 o2 h k = record {
  slot = k.slot ∙ h.slot;
  form = k.form ∙ h.form;
  running = k.running;
  further = omega (arith, h.further, k.further, length-append ps qs);
  takes =
      let far : (r1.place - r.place) + (r2.place - r1.place) ≡ r2.place - r.place = omega (arith, h.further, k.further) in
      subst (λ (n : ℕ). Takes r.slot n o o2) far
      (takes_on r.slot (r1.place - r.place) (r2.place - r1.place) o o1 o2 h.takes
      (subst (λ s. Takes s (r2.place - r1.place) o1 o2) h.slot k.takes));
  ahead = on-of ps qs r r1 r2 (told_at o.left r.slot) h.form (omega (arith, h.further)) (omega (arith, k.further)) h.ahead
      (subst (λ t. IfSome t
      (λ octets. records_from r1.form r1.place octets ≡ with_records qs (records_from r1.form r2.place (drop (r2.place - r1.place) octets))))
      (ap (told_at o1.left) h.slot ∙ behind_taken r.slot (r1.place - r.place) o o1 h.takes) k.ahead);
  small = λ s. k.small (h.small s);
  audited = k.audited ∙ ap (λ (x : Auditing). judged x qs) h.audited ∙ judged_on a ps qs;
}

-- ## One record

came-of : (r : Reading) (p : Packet) (o : Option (List ℕ)) → IfSome o (λ octets. next_at r.form r.place octets ≡ Came p)
    → IfSome o
    (λ octets. records_from r.form r.place octets ≡ with_records (p ∷ [])
    (records_from r.form (r.place + size p) (drop ((r.place + size p) - r.place) octets)))
came-of r p None h = tt
came-of r p (Some octets) h =
    let e : (r.place + size p) - r.place ≡ size p = omega arith in
    records-came r.form r.place octets p h ∙ ap (λ (n : ℕ). with_records (p ∷ []) (records_from r.form (r.place + size p) (drop n octets))) (sym e)

pub took_one : (r r' : Reading) (p : Packet) (a a' : Auditing) (old new : Outside) → r.stop ≡ None
    → r' ≡ record r { packet = Some p; place = r.place + size p } → r.place + size p ≤ 2 ^ 40 → Takes r.slot (size p) old new
    → IfSome (told_at old.left r.slot) (λ octets. next_at r.form r.place octets ≡ Came p)
    → a' ≡ record a {
      expecting =
          record a.expecting { so_far = behind a.settings (other a.expecting.side) a.expecting.moment a.expecting.wanted a.expecting.so_far p };
    }
    → Took (p ∷ []) r r' a a' old new
took_one r r' p a a' old new running is few takes next audited =
    subst (λ (x : Reading). Took (p ∷ []) r x a a' old new) (sym is) (record {
      slot = refl;
      form = refl;
      running = running;
      further = omega arith;
      takes = subst (λ (n : ℕ). Takes r.slot n old new) (let e : (r.place + size p) - r.place ≡ size p = omega arith in sym e) takes;
      ahead = came-of r p (told_at old.left r.slot) next;
      small = λ s. few;
      audited = audited;
    })

ended-of : (r : Reading) (o : Option (List ℕ)) → IfSome o (λ octets. next_at r.form r.place octets ≡ Ended)
    → IfSome o (λ octets. length (records_from r.form r.place octets).packets ≡ 0)
ended-of r None h = tt
ended-of r (Some octets) h = ap (λ (x : Records). length x.packets) (records-ended r.form r.place octets h)

broken-of : (f : _) (r : Reading) (o : Option (List ℕ)) → IfSome o (λ octets. next_at r.form r.place octets ≡ Broken f)
    → IfSome o (λ octets. length (records_from r.form r.place octets).packets ≡ 0)
broken-of f r None h = tt
broken-of f r (Some octets) h = ap (λ (x : Records). length x.packets) (records-broken r.form r.place octets f h)

-- ## Fewer than wanted

fewer-of : (ps : List Packet) (n : ℕ) (r r1 : Reading) (o : Option (List ℕ)) → r1.form ≡ r.form → length ps < n
    → IfSome o (λ octets. records_from r.form r.place octets ≡ with_records ps (records_from r.form r1.place (drop (r1.place - r.place) octets)))
    → IfSome (option_map (drop (r1.place - r.place)) o) (λ octets. length (records_from r1.form r1.place octets).packets ≡ 0)
    → IfSome o (λ octets. length (records_from r.form r.place octets).packets < n)
fewer-of ps n r r1 None form few h k = tt
fewer-of ps n r r1 (Some octets) form few h k =
    let rest = records_from r.form r1.place (drop (r1.place - r.place) octets) in
    let none : length rest.packets ≡ 0 = subst (λ f. length (records_from f r1.place (drop (r1.place - r.place) octets)).packets ≡ 0) form k in
    let all : length (records_from r.form r.place octets).packets ≡ length (ps ++ rest.packets) = ap (λ (x : Records). length x.packets) h in
    omega (arith, all, none, few, length-append ps rest.packets)

some_on : (ps : List Packet) (r r1 : Reading) (a a1 : Auditing) (o o1 o2 : Outside) → Took ps r r1 a a1 o o1 → TakesSome r1 o1 o2 → TakesSome r o o2
some_on ps r r1 a a1 o o1 o2 h k =
    ((r1.place - r.place) + k.0, takes_on r.slot (r1.place - r.place) k.0 o o1 o2 h.takes (subst (λ s. Takes s k.0 o1 o2) h.slot k.1))

pub took_fewer : (ps : List Packet) (n : ℕ) (r r1 r2 : Reading) (a a1 a2 a3 : Auditing) (o o1 o2 : Outside) → length ps < n → Took ps r r1 a a1 o o1
    → TakesRecord (Ok false) r1 r2 a1 a2 o1 o2 → TakesRecords (Ok false) n r r2 a a3 o o2
took_fewer ps n r r1 r2 a a1 a2 a3 o o1 o2 few h k = (
  some_on ps r r1 a a1 o o1 o2 h k.0,
  fewer-of ps n r r1 (told_at o.left r.slot) h.form few h.ahead
      (subst (λ t. IfSome t (λ octets. length (records_from r1.form r1.place octets).packets ≡ 0))
      (ap (told_at o1.left) h.slot ∙ behind_taken r.slot (r1.place - r.place) o o1 h.takes) k.1),
)

failed_on : (stop : Status) (slot : Slot) (a b c : Outside) → Grows a b → FailsAt stop slot b c → FailsAt stop slot a c
failed_on (ReadFault s) slot a b c grows k = (k.0, failed_since slot a b c grows k.1)
failed_on stop slot a b c grows k = absurd k

pub took_failed : (ps : List Packet) (n : ℕ) (e : Status) (r r1 r2 : Reading) (a a1 a2 a3 : Auditing) (o o1 o2 : Outside) → Took ps r r1 a a1 o o1
    → TakesRecord (Err e) r1 r2 a1 a2 o1 o2 → TakesRecords (Err e) n r r2 a a3 o o2
took_failed ps n e r r1 r2 a a1 a2 a3 o o1 o2 h k = (
  some_on ps r r1 a a1 o o1 o2 h k.0,
  failed_on e r.slot o o1 o2 (grows_takes r.slot (r1.place - r.place) o o1 h.takes) (subst (λ s. FailsAt e s o1 o2) h.slot k.1),
)

pub take_one : (r r' : Reading) (q : Packet) (a a' : Auditing) (old new : Outside) → r.stop ≡ None → Advances (Ok true) r r' old new
    → r'.packet ≡ Some q → a' ≡ record a {
      expecting = record a.expecting
          { so_far = behind a.settings (other a.expecting.side) a.expecting.moment a.expecting.wanted a.expecting.so_far q };
    }
    → TakesRecord (Ok true) r r' a a' old new
take_one r r' q a a' old new running h held audited =
    let found : Some h.0 ≡ Some q = sym (ap (λ (x : Reading). x.packet) h.3) ∙ held in
    let same : h.0 ≡ q = cc in (
      h.0,
      h.1.octets,
      took_one r r' h.0 a a' old new running h.3 h.2 h.4 h.5
          (subst (λ (x : Packet). a' ≡ record a {
            expecting =
                record a.expecting
                { so_far = behind a.settings (other a.expecting.side) a.expecting.moment a.expecting.wanted a.expecting.so_far x };
          })
          (sym same) audited),
    )

pub take_end : (r r' : Reading) (a a' : Auditing) (old new : Outside) → Advances (Ok false) r r' old new → TakesRecord (Ok false) r r' a a' old new
take_end r r' a a' old new h = ((0, h.1), ended-of r (told_at old.left r.slot) h.2)

pub take_fault : (f : CaptureFault) (place : ℕ) (r r' : Reading) (a a' : Auditing) (old new : Outside) → Advances (Err (Fault f place)) r r' old new
    → TakesRecord (Ok false) r r' a a' old new
take_fault f place r r' a a' old new h = ((h.2.count, h.2.takes), broken-of f r (told_at old.left r.slot) h.3)

-- what is kept behind one record
pub counted_one : (p : Packet) (a a' : Auditing) (n : ℕ) → length p.octets ≤ 262144 → a' ≡ judged a (p ∷ []) → a.lost ≡ false
    → a.expecting.so_far.count ≡ n → a.expecting.so_far.carried ≤ 262144 * n → (a'.lost ≡ false) × (a'.expecting.so_far.count ≡ n + 1)
    × (a'.expecting.so_far.carried ≤ 262144 * (n + 1))
counted_one p a a' n small is kept count few = (
  ap (λ (x : Auditing). x.lost) is ∙ kept,
  ap (λ (x : Auditing). x.expecting.so_far.count) is ∙ ap (λ (m : ℕ). m + 1) count,
  let more : a'.expecting.so_far.carried ≡ a.expecting.so_far.carried + carries a.settings (other a.expecting.side) a.expecting.wanted p =
      ap (λ (x : Auditing). x.expecting.so_far.carried) is in
      let little = carries_few a.settings (other a.expecting.side) a.expecting.wanted p in
      omega (arith, more, little, small, few),
)

-- ## The end of a capture

end_more-of : (r : Reading) (p : Packet) (o : Option (List ℕ)) → IfSome o (λ octets. next_at r.form r.place octets ≡ Came p)
    → IfSome o (λ octets. records_from r.form r.place octets ≡ record { packets = []; ending = Whole } → ⊥)
end_more-of r p None h = tt
end_more-of r p (Some octets) h = λ e.
    let none = ap (λ (x : Records). length x.packets) (sym (records-came r.form r.place octets p h) ∙ e) in
    omega (arith, none)

pub end_more : (r r' : Reading) (old new : Outside) → Advances (Ok true) r r' old new → FindsEnd (Ok false) r old new
end_more r r' old new h = ((size h.0, h.4), end_more-of r h.0 (told_at old.left r.slot) h.5)

end_ended-of : (r : Reading) (o : Option (List ℕ)) → IfSome o (λ octets. next_at r.form r.place octets ≡ Ended)
    → IfSome o (λ octets. records_from r.form r.place octets ≡ record { packets = []; ending = Whole })
end_ended-of r None h = tt
end_ended-of r (Some octets) h = records-ended r.form r.place octets h

pub end_ended : (r r' : Reading) (old new : Outside) → Advances (Ok false) r r' old new → FindsEnd (Ok true) r old new
end_ended r r' old new h = ((0, h.1), end_ended-of r (told_at old.left r.slot) h.2)

not_whole : (f : CaptureFault) (place : ℕ) → faults.Fault f place ≡ Whole → ⊥
not_whole f place e = cc

end_broken-of : (f : CaptureFault) (r : Reading) (o : Option (List ℕ)) → IfSome o (λ octets. next_at r.form r.place octets ≡ Broken f)
    → IfSome o (λ octets. records_from r.form r.place octets ≡ record { packets = []; ending = Whole } → ⊥)
end_broken-of f r None h = tt
end_broken-of f r (Some octets) h = λ e. not_whole f r.place (ap (λ (x : Records). x.ending) (sym (records-broken r.form r.place octets f h) ∙ e))

pub end_broken : (f : CaptureFault) (place : ℕ) (r r' : Reading) (old new : Outside) → Advances (Err (Fault f place)) r r' old new
    → FindsEnd (Ok false) r old new
end_broken f place r r' old new h = ((h.2.count, h.2.takes), end_broken-of f r (told_at old.left r.slot) h.3)
