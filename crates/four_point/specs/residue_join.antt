pub mod HalfUnits
