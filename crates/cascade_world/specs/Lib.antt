-- The nodes of a script, and what an order does to them; and, for those who cite it
-- here, what stands below.
pub use Rattle.cascade_report.specs.Origins
pub use Rattle.cascade_report.specs.ReportLines
pub use Rattle.cascade_nodes.specs.Commits
pub use Rattle.cascade_nodes.specs.Nodes
pub use Rattle.cascade_nodes.specs.Opening
pub use Rattle.cascade_exchange.specs.Cookies
pub use Rattle.cascade_exchange.specs.Exchange
pub use Rattle.cascade_exchange.specs.Reception
pub use Rattle.cascade_exchange.specs.Trace
pub mod Directory
pub mod InStep
pub mod Places
pub mod World
