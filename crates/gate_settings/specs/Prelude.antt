-- The names of this crate that others cite most, passed on from one place. Declares nothing.
pub use Rattle.gate_settings.specs.Cross.{alias_is_outside, block_end, collides, host_is_taken, is_bad_pool, is_in_block, is_in_pool, is_in_same, meets_same, side_settings}
pub use Rattle.gate_settings.specs.Forms.{HasForms, HasMacAddresses, HasUnicastPool, HaveMacAddresses}
pub use Rattle.gate_settings.specs.Inside.Ranges.{AreRanges, ranges_from}
pub use Rattle.gate_settings.specs.Sound.{IsSound}
