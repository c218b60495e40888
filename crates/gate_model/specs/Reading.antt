-- One representation of sessions in place of another.
use Rattle.std.specs.Prelude.{◌≡◌, ℕ, map, Option, None, option_map}
use Rattle.gate_base.specs.declared.address.Addr.{Addr}
use Rattle.gate_base.specs.declared.event.Pair.{Pair}
use Rattle.gate_base.specs.declared.host.Host.{Host}
use Rattle.stream_model.specs.Prelude.{Segment}
use Rattle.tcp_tracker.specs.declared.connection.Connection.{Connection}
use Rattle.gate_model.specs.Rules.{SessionRules}
use Rattle.gate_model.specs.World.{World, Tracked}

-- ## Sessions read as others

abbrev pub tracked_as : {S T : Type 0} → (S → T) → Tracked S → Tracked T
tracked_as h t = record { client = t.client; pair = t.pair; session = h t.session }

abbrev pub connection_as : {S T : Type 0} → (S → T) → Connection (Tracked S) → Connection (Tracked T)
connection_as h c = record {
  key = c.key;
  left_acknowledges = c.left_acknowledges;
  right_acknowledges = c.right_acknowledges;
  closing = c.closing;
  session = option_map (tracked_as h) c.session;
  until = c.until;
}

-- the world with each session read as another
abbrev pub world_as : {S T : Type 0} → (S → T) → World S → World T
world_as h w = record { clock = w.clock; table = w.table; connections = map (connection_as h) w.connections; pending = w.pending }

-- sessions by the rules a, read as others, are sessions by the rules b
pub record Reads {S T : Type 0} (h : S → T) (a : SessionRules S) (b : SessionRules T) : Type 0 where
  pub made : (port : ℕ) (pair : Pair) (initial mss : ℕ) → h (a.made port pair initial mss) ≡ b.made port pair initial mss
  pub refusal : (from : Host) (s : S) (g : Segment) → b.refusal from (h s) g ≡ a.refusal from s g
  pub units : (from : Host) (s : S) (g : Segment) → a.refusal from s g ≡ None → b.units from (h s) g ≡ a.units from s g
  pub listed : (host : Host) (s : S) → b.listed host (h s) ≡ a.listed host s
  pub next : (image : Addr → Option Addr) (from : Host) (s : S) (g : Segment) → a.refusal from s g ≡ None
      → b.next image from (h s) g ≡ h (a.next image from s g)
  pub out : (image : Addr → Option Addr) (from : Host) (s : S) (g : Segment) → a.refusal from s g ≡ None
      → b.out image from (h s) g ≡ a.out image from s g
  pub ends : (from : Host) (s : S) (g : Segment) → b.ends from (h s) g ≡ a.ends from s g
  pub inner : (host : Host) (s : S) (number : ℕ) → b.inner host (h s) number ≡ a.inner host s number
  pub pending : (s : S) → b.pending (h s) ≡ a.pending s

-- ## Sessions that are related

-- related sessions answer alike, and stay related while segments pass
pub record Agree {S T : Type 0} (R : S → T → Type 0) (a : SessionRules S) (b : SessionRules T) : Type 0 where
  pub made : (port : ℕ) (pair : Pair) (initial mss : ℕ) → R (a.made port pair initial mss) (b.made port pair initial mss)
  pub refusal : (from : Host) (s : S) (t : T) (g : Segment) → R s t → b.refusal from t g ≡ a.refusal from s g
  pub units : (from : Host) (s : S) (t : T) (g : Segment) → R s t → a.refusal from s g ≡ None → b.units from t g ≡ a.units from s g
  pub listed : (host : Host) (s : S) (t : T) → R s t → b.listed host t ≡ a.listed host s
  pub next : (image : Addr → Option Addr) (from : Host) (s : S) (t : T) (g : Segment) → R s t → a.refusal from s g ≡ None
      → R (a.next image from s g) (b.next image from t g)
  pub out : (image : Addr → Option Addr) (from : Host) (s : S) (t : T) (g : Segment) → R s t → a.refusal from s g ≡ None
      → b.out image from t g ≡ a.out image from s g
  pub ends : (from : Host) (s : S) (t : T) (g : Segment) → R s t → b.ends from t g ≡ a.ends from s g
  pub inner : (host : Host) (s : S) (t : T) (number : ℕ) → R s t → b.inner host t number ≡ a.inner host s number
  pub pending : (s : S) (t : T) → R s t → b.pending t ≡ a.pending s

-- two related sessions
pub record Both {S T : Type 0} (R : S → T → Type 0) : Type 0 where
  pub one : S
  pub two : T
  pub related : R one two

-- two worlds that differ in their sessions alone, each of which is related to its like: both are read off one world of pairs
pub record AreRelated {S T : Type 0} (R : S → T → Type 0) (w : World S) (v : World T) : Type 0 where
  pub pairs : World (Both R)
  pub one : world_as (λ (x : Both R). x.one) pairs ≡ w
  pub two : world_as (λ (x : Both R). x.two) pairs ≡ v
