pub mod OpaqueActor
