pub mod Courses
pub mod Laws
