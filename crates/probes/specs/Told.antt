-- What watchers were told.
pub use Rattle.probe_base.specs.Told.{AllGrew, AllGrewByPrefix}
