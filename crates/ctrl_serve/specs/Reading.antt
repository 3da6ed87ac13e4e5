-- How far a run reads its input (docs/PROMISES.md, "The headline").
pub use Rattle.serve_loop.specs.Reading.{is_decided, StaysNear}
