-- Watchers that are told one after another.
pub use Rattle.probe_base.proofs.Growing.{AllGrew-none, AllGrew-then, AllGrewByPrefix-then, AllGrewByPrefix-more, AllGrewByPrefix-whole}
